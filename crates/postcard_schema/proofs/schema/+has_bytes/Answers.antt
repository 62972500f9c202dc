-- `has_bytes` decides a tuple and a struct part by part. A part without bytes leaves the decision to those after it.
use Rattle.std.proofs.Common.{◌≡◌, ◌+◌, false, ◌∷◌, drop, refl, sym, ap, ◌∙◌, arith}
use Rattle.std.proofs.lemmas.List.{drop_more}
use Rattle.postcard_schema.specs.Meaning.{MessageType, MessageTypes, contents, has_bytes, some_has_bytes, type_of, types_of, then_type}
use Rattle.postcard_schema.specs.Lemmas.{type_of_struct}
use Rattle.postcard_schema.proofs.schema.+has_bytes.Goals as goal

-- If the first type may have no bytes, the types after it decide.
first_lacks : (t : MessageType) (ts : MessageTypes) → has_bytes t ≡ false → some_has_bytes (then_type t ts) ≡ some_has_bytes ts
first_lacks t ts e = rw e refl

pub part_has_bytes-loop-part-preserved : goal.part_has_bytes-loop-part-preserved
part_has_bytes-loop-part-preserved t c =
    let l = c.loop-part in
    let xs = c.deref-part-items.result.now in
    let x = c.part-item.result in
    let rest = drop (l.part-index + 1) xs in
    let here : drop l.part-index xs ≡ x ∷ rest = drop_more xs l.part-index x (omega arith) ∙ ap (λ y. y ∷ rest) (sym c.part-item.is) in
    let none : has_bytes (type_of x) ≡ false = sym c.has_bytes.ensures ∙ c.if-has_bytes.false in
    sym (first_lacks (type_of x) (types_of rest) none) ∙ (ap (λ ss. some_has_bytes (types_of ss)) (sym here) ∙ l.invariant)

pub field_has_bytes-loop-field-preserved : goal.field_has_bytes-loop-field-preserved
field_has_bytes-loop-field-preserved t c =
    let l = c.loop-field in
    let xs = c.deref-field-items.result.now in
    let x = c.field-item.result in
    let rest = drop (l.field-index + 1) xs in
    let here : drop l.field-index xs ≡ x ∷ rest = drop_more xs l.field-index x (omega arith) ∙ ap (λ y. y ∷ rest) (sym c.field-item.is) in
    let none : has_bytes (type_of x.content) ≡ false = sym c.has_bytes.ensures ∙ c.if-has_bytes.false in
    sym (first_lacks (type_of x.content) (types_of (contents rest)) none) ∙ (ap (λ ss. some_has_bytes (types_of (contents ss))) (sym here) ∙ l.invariant)

pub Schema::has_bytes-returns-in-Struct : goal.Schema::has_bytes-returns-in-Struct
Schema::has_bytes-returns-in-Struct t c = rw (c.in-Struct.is, type_of_struct c.in-Struct.fields) c.field_has_bytes.ensures
