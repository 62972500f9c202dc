-- The content of the field or variant at an index is the content at that index. There are as many contents as fields or variants.
use Rattle.std.proofs.Common.{◌≡◌, ◌≤◌, ◌<◌, length, get_or, sym, subst, arith}
use Rattle.std.proofs.lemmas.Grind.{common_steps}
use Rattle.postcard_schema.specs.Lemmas.{contents_length}
use Rattle.postcard_compat.specs.Parts.{parts_of}
use Rattle.postcard_compat.proofs.ByKind.{content_get}
use Rattle.postcard_compat.proofs.row.Row.get.Goals as goal

pub returns-in-Some-clause-part : goal.returns-in-Some-clause-part
returns-in-Some-clause-part c =
    let i = c.args.index in
    let ns = c.in-Named.parts.now.items in
    let n = c.in-Some.part.now in
    let inside : i < length c.deref-in-Named.result.now = grind (arith, common_steps) in
    let low : i < length ns = subst (λ xs. i < length xs) c.deref-in-Named.ensures.value inside in
    let is : n ≡ get_or ns i n = subst (λ xs. n ≡ get_or xs i n) c.deref-in-Named.ensures.value c.in-Some.ensures.lookup.1 in
    subst (λ r. (i < length (parts_of r)) × (n.content ≡ get_or (parts_of r) i n.content)) (sym c.in-Named.is)
    (omega (arith, low, contents_length ns), content_get ns i n low is)

pub returns-in-None-clause-none : goal.returns-in-None-clause-none
returns-in-None-clause-none c =
    let i = c.args.index in
    let ns = c.in-Named.parts.now.items in
    let over : length c.deref-in-Named.result.now ≤ i = grind (arith, common_steps) in
    let all : length ns ≤ i = subst (λ xs. length xs ≤ i) c.deref-in-Named.ensures.value over in
    subst (λ r. length (parts_of r) ≤ i) (sym c.in-Named.is) (omega (arith, all, contents_length ns))
