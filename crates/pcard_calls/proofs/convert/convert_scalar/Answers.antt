use Rattle.std.proofs.lemmas.Result.{err_from_is_err_and}
use Rattle.pcard_calls.proofs.NamedLemmas.{memory_or_none}
use Rattle.pcard_calls.proofs.convert.convert_scalar.Goals as goal

pub returns-in_err-value-in-Decode : goal.returns-in_err-value-in-Decode
returns-in_err-value-in-Decode g c =
    let p = err_from_is_err_and c.from_residual-in_err-value-in-Decode.result c.from_residual-in_err-value-in-Decode.ensures.1 in
    let took = c.in_err-value-in-Decode.ensures in
    rw (c.in-Decode.is, p.1, p.2)
    (memory_or_none g.T.Shaped.shape.other _ _ took.named_error (λ is v rest r. is (took.accepts r.tree r.front rest r.is_read r.is_spelled r.joins).0))
