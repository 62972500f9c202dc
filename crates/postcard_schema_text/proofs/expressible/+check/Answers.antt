-- A type is checked as its parts are.
use Rattle.std.proofs.Common.{◌≡◌, ◌-◌, ◌^◌, ◌<◌, suc, Bool, true, refl, sym, ap, ◌∙◌, arith, inl, inr}
use Rattle.std.specs.Prelude.{Result, Ok, Err, MatchResult}
use Rattle.postcard_schema.specs.Meaning.{entry_of, has_bytes, type_of}
use Rattle.postcard_schema.specs.Views.{message_type, named_views, view, views}
use Rattle.postcard_schema.proofs.Typed.{typed}
use Rattle.postcard_schema.proofs.ViewLemmas.{view_array, view_enum, view_map, view_option, view_seq, view_struct, view_tuple}
use Rattle.postcard_schema.specs.declared.schema.Schema.{Schema}
use Rattle.postcard_schema_text.specs.declared.error.TextError.{TextError}
use Rattle.postcard_schema_text.specs.Expressible.{AllHaveText, ContentsHaveText, SomeContentHasFlaw, SomeHasFlaw}
use Rattle.postcard_schema_text.proofs.Reaches.{reached}
use Rattle.postcard_schema_text.proofs.expressible.+check.Goals as goal

-- A result of which more is said.
match_mapped : (r : Result (Unit {0}) TextError) (P Q : Type 0) (F G : TextError → Type 0) → (P → Q) → ((e : TextError) → F e → G e)
    → MatchResult r (λ u. P) F → MatchResult r (λ u. Q) G
match_mapped (Ok u) P Q F G f g h = f h
match_mapped (Err e) P Q F G f g h = g e h

pub check-returns-in-Option : goal.check-returns-in-Option
check-returns-in-Option t c =
    let some : c.args.depth ≡ suc (c.args.depth - 1) = omega arith in
    rw (some, c.in-Option.is, view_option c.in-Option.content, sym c.deref.ensures) c.check.ensures

pub check-returns-in-Map : goal.check-returns-in-Map
check-returns-in-Map t c =
    let some : c.args.depth ≡ suc (c.args.depth - 1) = omega arith in
    rw (some, c.in-Map.is, view_map c.in-Map.key c.in-Map.value, sym c.deref-in-Map.ensures, sym c.deref-in-Map-2.ensures) c.check_entry.ensures

pub check-returns-in-Struct : goal.check-returns-in-Struct
check-returns-in-Struct t c =
    let some : c.args.depth ≡ suc (c.args.depth - 1) = omega arith in
    rw (some, c.in-Struct.is, view_struct c.in-Struct.fields) c.check_named.ensures

pub check-returns-in-Enum-2 : goal.check-returns-in-Enum-2
check-returns-in-Enum-2 t c =
    let some : c.args.depth ≡ suc (suc (c.args.depth - 1 - 1)) = omega arith in
    rw (some, c.in-Enum-2.is, view_enum c.in-Enum-2.variants) c.check_named-in-Enum-2.ensures

pub check-returns-in-Seq : goal.check-returns-in-Seq
check-returns-in-Seq t c =
    let some : c.args.depth ≡ suc (c.args.depth - 1) = omega arith in
    rw (some, c.in-Seq.is, view_seq c.in-Seq.element, sym c.deref-in-Seq.ensures) c.check_element.ensures

pub check-returns-in-Tuple : goal.check-returns-in-Tuple
check-returns-in-Tuple t c =
    let some : c.args.depth ≡ suc (c.args.depth - 1) = omega arith in
    rw (some, c.in-Tuple.is, view_tuple c.in-Tuple.parts) c.check_parts.ensures

pub check-returns-in-Array : goal.check-returns-in-Array
check-returns-in-Array t c =
    let some : c.args.depth ≡ suc (c.args.depth - 1) = omega arith in
    rw (some, c.in-Array.is, view_array c.in-Array.element c.in-Array.count, sym c.deref-in-Array.ensures) c.check_array.ensures

pub check_array-returns : goal.check_array-returns
check_array-returns t c =
    let small : c.args.count < 2 ^ 64 = omega arith in
    match_mapped c.check_element.result _ _ _ _ (λ h. (small, h)) (λ e h. h) c.check_element.ensures

pub check_element-returns-then-not-has_bytes : goal.check_element-returns-then-not-has_bytes
check_element-returns-then-not-has_bytes t c =
    inl (refl, ap has_bytes (typed c.args.element.now) ∙ sym c.has_bytes.ensures ∙ c.if-not-has_bytes.true)

pub check_element-returns : goal.check_element-returns
check_element-returns t c =
    let some : has_bytes (message_type (view c.args.element.now)) ≡ true =
    ap has_bytes (typed c.args.element.now) ∙ sym c.has_bytes.ensures ∙ c.if-not-has_bytes.false in
    match_mapped c.check.result _ _ _ _ (λ h. (some, h)) (λ e h. inr h) c.check.ensures

-- Whether an entry has bytes, by the views of its key and its value.
entry_bytes : (k v : Schema) (r : Bool) → r ≡ has_bytes (entry_of (type_of k) (type_of v))
    → has_bytes (entry_of (message_type (view k)) (message_type (view v))) ≡ r
entry_bytes k v r e = ap (λ t. has_bytes (entry_of t (message_type (view v)))) (typed k) ∙ ap (λ t. has_bytes (entry_of (type_of k) t)) (typed v) ∙ sym e

pub check_entry-returns-then-not-entry_has_bytes : goal.check_entry-returns-then-not-entry_has_bytes
check_entry-returns-then-not-entry_has_bytes t c =
    inl (refl, entry_bytes c.args.key.now c.args.value.now c.entry_has_bytes.result c.entry_has_bytes.ensures ∙ c.if-not-entry_has_bytes.true)

pub check_entry-returns : goal.check_entry-returns
check_entry-returns t c =
    let some = entry_bytes c.args.key.now c.args.value.now c.entry_has_bytes.result c.entry_has_bytes.ensures ∙ c.if-not-entry_has_bytes.false in
    match_mapped c.check-2.result _ _ _ _ (λ h. (some, c.in_ok-check.ensures, h)) (λ e h. inr (inr h)) c.check-2.ensures

pub check_named-loop-part-preserved : goal.check_named-loop-part-preserved
check_named-loop-part-preserved t c =
    let ns = c.deref-part-items.result.now in
    let i = c.loop-part.part-index in
    let x = c.part-item.result in
    record {
      texts = λ h. reached (λ ms. ContentsHaveText c.args.depth (named_views ms)) ns i x (omega arith) c.part-item.is c.loop-part.invariant.texts
          (c.in_ok-check.ensures, h);
      flaw = λ e h. reached (λ ms. SomeContentHasFlaw e c.args.depth (named_views ms)) ns i x (omega arith) c.part-item.is (c.loop-part.invariant.flaw e)
          (inr h);
    }

pub check_parts-loop-part-preserved : goal.check_parts-loop-part-preserved
check_parts-loop-part-preserved t c =
    let ss = c.deref-part-items.result.now in
    let i = c.loop-part.part-index in
    let x = c.part-item.result in
    record {
      texts = λ h. reached (λ us. AllHaveText c.args.depth (views us)) ss i x (omega arith) c.part-item.is c.loop-part.invariant.texts
          (c.in_ok-check.ensures, h);
      flaw = λ e h. reached (λ us. SomeHasFlaw e c.args.depth (views us)) ss i x (omega arith) c.part-item.is (c.loop-part.invariant.flaw e)
          (inr h);
    }
