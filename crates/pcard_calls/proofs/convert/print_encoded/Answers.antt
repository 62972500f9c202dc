use Rattle.std.proofs.Common.{◌≡◌, [], sym, ap, ◌∙◌, arith, length}
use Rattle.std.proofs.lemmas.Result.{err_from_is_err_and}
use Rattle.pcard_calls.proofs.NamedLemmas.{too_long}
use Rattle.std.proofs.KnownBytes.{Appends-trans}
use Rattle.pcard_calls.proofs.convert.print_encoded.Goals as goal

pub returns-clause-printed : goal.returns-clause-printed
returns-clause-printed g c =
    let all = c.deref.ensures.0 ∙ c.in_ok-encoding.ensures.finalized.gives ∙ c.in_ok-serialize.ensures.wrote.appends in
    let held = rw c.new.ensures at all in
    rw (sym held) (Appends-trans _ _ _ _ _ c.in_ok-write_hex.ensures c.in_ok-writeln.ensures.bytes)

pub returns-in_err-serialize-clause-refused : goal.returns-in_err-serialize-clause-refused
returns-in_err-serialize-clause-refused g c =
    let p = err_from_is_err_and c.from_residual.result c.from_residual.ensures.1 in
    let w = c.in_err-serialize.ensures.wrote in
    let empty : c.new.result ≡ [] = c.new.ensures in
    let n = ap length empty in
    rw (p.1, p.2)
    (too_long g.T.Shaped.shape c.args.value.now _ (λ fits. w.has_room (omega arith)) w.named_error)
