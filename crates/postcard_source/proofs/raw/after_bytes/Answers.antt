use Rattle.std.proofs.Common.{◌≡◌, rules, refl}
use Rattle.postcard_source.proofs.RawFronts.{begins_not}
use Rattle.postcard_source.proofs.raw.after_bytes.Goals as goal

pub returns-clause-none : goal.returns-clause-none
returns-clause-none c = λ rest.
    let other : c.split_at.result.0.now ≡ c.args.bytes.now → ⊥ = search rules in
    begins_not c.args.text.now c.args.bytes.now c.split_at.result.0.now rest _ refl c.split_at.ensures.front other
