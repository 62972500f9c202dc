-- The rows that the definition makes of a tuple and a struct have one entry for each part.
use Rattle.std.proofs.Common.{arith}
use Rattle.postcard_explain.proofs.PartLemmas.{length_named, length_numbered}
use Rattle.postcard_explain.proofs.row.Row.len.Goals as goal

pub returns-in-Tuple : goal.returns-in-Tuple
returns-in-Tuple c =
    let v = c.in-Tuple.parts.now in
    rw (c.in-Tuple.is, length_numbered 0 v.items) (omega (arith, c.len.ensures, v.ok.0))

pub returns-in-Struct : goal.returns-in-Struct
returns-in-Struct c =
    let v = c.in-Struct.fields.now in
    rw (c.in-Struct.is, length_named v.items) (omega (arith, c.len-in-Struct.ensures, v.ok.0))
