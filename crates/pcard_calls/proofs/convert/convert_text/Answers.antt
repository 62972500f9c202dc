use Rattle.std.proofs.lemmas.Result.{err_from_is_err_and}
use Rattle.pcard_calls.specs.Named.{whole_word}
use Rattle.pcard_calls.proofs.NamedLemmas.{memory_or_none}
use Rattle.pcard_calls.proofs.convert.convert_text.Goals as goal

pub returns-in_err-text-in-Decode : goal.returns-in_err-text-in-Decode
returns-in_err-text-in-Decode g c =
    let p = err_from_is_err_and c.from_residual.result c.from_residual.ensures.1 in
    let took = c.in_err-text-in-Decode.ensures in
    rw (c.in-Decode.is, p.1, p.2)
    (memory_or_none whole_word.shape.other _ _ took.named_error (λ is v rest r. is (took.accepts r.tree r.front rest r.is_read r.is_spelled r.joins).0))
