-- The map that `map_of` makes is the one that the grammar names, and its entries have bytes.
use Rattle.std.proofs.Common.{◌≡◌, true, ◌⊎◌, refl, sym, ◌∙◌, inl, inr}
use Rattle.postcard_schema.specs.Meaning.{has_bytes, type_of}
use Rattle.postcard_schema_text.proofs.AngledSchemas.{entry_full}
use Rattle.postcard_schema_text.proofs.angled.map_of.Goals.{else-not-has_bytes-via-then-not-has_bytes+else-not-has_bytes-2, else-not-has_bytes-via-else-not-has_bytes}
use Rattle.postcard_schema_text.proofs.angled.map_of.Goals as goal

pub returns-clause-made : goal.returns-clause-made
returns-clause-made c =
    let some : (has_bytes (type_of c.args.key) ≡ true) ⊎ (has_bytes (type_of c.args.value) ≡ true) = elim c.else-not-has_bytes.branch [
      | else-not-has_bytes-via-then-not-has_bytes+else-not-has_bytes-2 w ↦ inr (sym w.has_bytes-then-not-has_bytes.ensures ∙ w.if-not-has_bytes-2.false)
      | else-not-has_bytes-via-else-not-has_bytes w ↦ inl (sym c.has_bytes.ensures ∙ w.if-not-has_bytes.false)
    ] in
    (entry_full (type_of c.args.key) (type_of c.args.value) some, (c.in_ok-key.key, c.in_ok-boxed.field-0, refl, c.in_ok-key.ensures.held, c.in_ok-boxed.ensures.held))
