-- `serves` and the functions under it, by the kind of type. A row serves another part by part (`ByKind`).
use Rattle.std.proofs.Common.{◌≡◌, ◌<◌, ◌≤◌, ◌∙◌, length, subst, arith}
use Rattle.postcard_schema.specs.Lemmas.{contents_length}
use Rattle.postcard_schema.specs.Meaning.{contents, types_of}
use Rattle.postcard_compat.specs.Parts.{parts_of}
use Rattle.postcard_compat.specs.Serving.{VariantsServe}
use Rattle.postcard_compat.proofs.ByKind.{of_leaf, of_option, of_seq, of_map, of_array, of_tuple, of_struct, of_enum, content_get, parts_next, parts_end}
use Rattle.postcard_compat.proofs.+serves.Goals as goal

pub named_serve-loop-index-init : goal.named_serve-loop-index-init
named_serve-loop-index-init t c = λ h. h

pub named_serve-loop-index-preserved : goal.named_serve-loop-index-preserved
named_serve-loop-index-preserved t c =
    let os = c.deref-part-items.result.now in
    let k = c.loop-index.index in
    let o = c.part-item.result in
    let low : k < length os = omega arith in
    let inside : k < length (contents os) = omega (arith, low, contents_length os) in
    parts_next (parts_of c.args.new) (contents os) k c.in-Some.other.now o.content c.in-Some.ensures.part.0 c.in-Some.ensures.part.1
    inside (content_get os k o low c.part-item.is) (c.serves.ensures c.if-not-serves.false) c.loop-index.invariant

pub named_serve-returns : goal.named_serve-returns
named_serve-returns t c = λ yes.
    let os = c.deref-part-items.result.now in
    let ns = parts_of c.args.new in
    let high : length (contents os) ≤ c.loop-index.index = omega (arith, c.loop-index-test.false, contents_length os) in
    subst (λ xs. VariantsServe (types_of ns) (types_of (contents xs))) c.deref-part-items.ensures.value
    (parts_end ns (contents os) c.loop-index.index high c.loop-index.invariant)

pub parts_serve-loop-index-init : goal.parts_serve-loop-index-init
parts_serve-loop-index-init t c = λ h. h

pub parts_serve-loop-index-preserved : goal.parts_serve-loop-index-preserved
parts_serve-loop-index-preserved t c =
    let os = c.deref-part-items.result.now in
    let k = c.loop-index.index in
    let low : k < length os = omega arith in
    parts_next (parts_of c.args.new) os k c.in-Some.other.now c.part-item.result c.in-Some.ensures.part.0 c.in-Some.ensures.part.1
    low c.part-item.is (c.serves.ensures c.if-not-serves.false) c.loop-index.invariant

pub parts_serve-returns : goal.parts_serve-returns
parts_serve-returns t c = λ yes.
    let os = c.deref-part-items.result.now in
    let ns = parts_of c.args.new in
    subst (λ xs. VariantsServe (types_of ns) (types_of xs)) c.deref-part-items.ensures.value
    (parts_end ns os c.loop-index.index c.loop-index-test.false c.loop-index.invariant)

pub serves-returns-in-Leaf-new : goal.serves-returns-in-Leaf-new
serves-returns-in-Leaf-new t c = λ yes.
    of_leaf c.args.old.now c.args.new.now _ _ c.in-Leaf.is c.in-Leaf-new.is (c.leaf_serves.ensures yes)

pub serves-returns-in-Some : goal.serves-returns-in-Some
serves-returns-in-Some t c = λ yes.
    of_option c.args.old.now c.args.new.now c.deref.result.now c.in-Some.new.now c.in-Option.old c.deref.ensures c.in-Some.ensures (c.serves.ensures yes) c.in-Option.is

pub serves-returns-in-Seq-new : goal.serves-returns-in-Seq-new
serves-returns-in-Seq-new t c = λ yes.
    of_seq c.args.old.now c.args.new.now c.deref-in-Seq-new.result.now c.deref-in-Seq-new-2.result.now c.in-Seq.old c.in-Seq-new.new c.deref-in-Seq-new.ensures c.deref-in-Seq-new-2.ensures
    (c.serves-in-Seq-new.ensures yes) c.in-Seq.is c.in-Seq-new.is

pub serves-returns-then-serves : goal.serves-returns-then-serves
serves-returns-then-serves t c = λ yes.
    of_map c.args.old.now c.args.new.now c.in-Map.old_key c.in-Map.old_value c.in-Map-new.key c.in-Map-new.value
    c.deref-in-Map-new.result.now c.deref-then-serves.result.now c.deref-in-Map-new-2.result.now c.deref-then-serves-2.result.now
    c.deref-in-Map-new.ensures c.deref-then-serves.ensures c.deref-in-Map-new-2.ensures c.deref-then-serves-2.ensures
    (c.serves-in-Map-new.ensures c.if-serves.true) (c.serves-then-serves.ensures yes) c.in-Map.is c.in-Map-new.is

pub serves-returns-then-old_count-count : goal.serves-returns-then-old_count-count
serves-returns-then-old_count-count t c = λ yes.
    of_array c.args.old.now c.args.new.now c.deref-then-old_count-count.result.now c.deref-then-old_count-count-2.result.now c.in-Array.old c.in-Array-new.new
    c.deref-then-old_count-count.ensures c.deref-then-old_count-count-2.ensures (c.serves-then-old_count-count.ensures yes)
    c.in-Array.old_count c.in-Array-new.count c.if-old_count-count.true c.in-Array.is c.in-Array-new.is

pub serves-returns-then-len : goal.serves-returns-then-len
serves-returns-then-len t c = λ yes.
    let ns = parts_of c.of-new.result in
    let many : length c.in-Tuple.old.items ≡ length ns = omega (arith, c.in-Tuple.old.ok.0, c.len.ensures, c.if-len.true, c.len-in-Tuple.ensures) in
    of_tuple c.args.old.now c.args.new.now c.in-Tuple.old ns c.in-Tuple.is c.of-new.ensures many (c.parts_serve.ensures yes)

pub serves-returns-then-len-2 : goal.serves-returns-then-len-2
serves-returns-then-len-2 t c = λ yes.
    let ns = parts_of c.of-new-in-Struct.result in
    let many : length c.in-Struct.old.items ≡ length ns = omega (arith, c.in-Struct.old.ok.0, c.len-in-Struct.ensures, c.if-len-2.true, c.len-in-Struct-2.ensures) in
    of_struct c.args.old.now c.args.new.now c.in-Struct.old ns c.in-Struct.is c.of-new-in-Struct.ensures (contents_length c.in-Struct.old.items ∙ many) (c.named_serve.ensures yes)

pub serves-returns-in-Enum-new : goal.serves-returns-in-Enum-new
serves-returns-in-Enum-new t c = λ yes.
    of_enum c.args.old.now c.args.new.now c.in-Enum.old c.in-Enum-new.new c.in-Enum.is c.in-Enum-new.is (c.named_serve-in-Enum-new.ensures yes)
