-- The part at an index has the label and the type that the definition gives it.
use Rattle.std.proofs.Common.{◌≡◌, ◌<◌, length, get_or, ap, arith}
use Rattle.std.proofs.lemmas.Grind.{common_steps}
use Rattle.postcard_explain.specs.Parts.{at_field}
use Rattle.postcard_explain.proofs.PartLemmas.{length_named, length_numbered, named_at, numbered_at}
use Rattle.postcard_explain.proofs.row.Row.part.Goals as goal

pub index-requires : goal.index-requires
index-requires c =
    let v = c.in-Tuple.parts.now in
    let low : c.args.index < length v.items = rw (c.in-Tuple.is, length_numbered 0 v.items) at c.requires in
    omega (arith, low, v.ok.0)

pub index-field-requires : goal.index-field-requires
index-field-requires c =
    let v = c.in-Struct.fields.now in
    let low : c.args.index < length v.items = rw (c.in-Struct.is, length_named v.items) at c.requires in
    omega (arith, low, v.ok.0)

pub returns-in-Tuple : goal.returns-in-Tuple
returns-in-Tuple c =
    let v = c.in-Tuple.parts.now in
    let x = c.index.result.now in
    let low : c.args.index < length v.items = rw (c.in-Tuple.is, length_numbered 0 v.items) at c.requires in
    let found : x ≡ get_or v.items c.args.index x = grind (arith, common_steps) in
    rw c.in-Tuple.is (numbered_at 0 v.items c.args.index c.args.index x (omega arith) low found)

pub returns-in-Struct : goal.returns-in-Struct
returns-in-Struct c =
    let v = c.in-Struct.fields.now in
    let f = c.index-field.result.now in
    let low : c.args.index < length v.items = rw (c.in-Struct.is, length_named v.items) at c.requires in
    let found : f ≡ get_or v.items c.args.index f = grind (arith, common_steps) in
    rw c.in-Struct.is (named_at v.items c.args.index f (at_field c.deref.result.now) low found (ap at_field c.deref.ensures))
