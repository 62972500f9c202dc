-- The texts of structs and enums. An enum without variants has a single `|`.
use Rattle.std.proofs.Common.{◌≡◌, ℕ, zero, suc, ◌<◌, ◌==◌, false, List, [], ◌∷◌, ◌++◌, length, sym, ap, ◌∙◌, append_assoc, eqb-true, arith}
use Rattle.std.specs.Prelude.{codes, string_bytes}
use Rattle.postcard_schema.specs.Named.{named_text, named_variants_text}
use Rattle.postcard_schema.specs.Views.{enum_view, named_views}
use Rattle.postcard_schema.specs.declared.schema.Named.{Named}
use Rattle.postcard_schema.specs.declared.schema.Schema.{Schema}
use Rattle.postcard_schema.proofs.ViewLemmas.{view_enum, view_struct}
use Rattle.postcard_schema_text.proofs.print.+add_type.Goals.{add_variants-then-is_empty+in_ok-push_str-2, add_variants-else-is_empty}
use Rattle.postcard_schema_text.proofs.print.+add_type.Goals as goal

pub add_type-returns-in-Struct : goal.add_type-returns-in-Struct
add_type-returns-in-Struct t c = rw (c.in-Struct.is, view_struct c.in-Struct.fields) c.add_fields.ensures

pub add_type-returns-in-Enum : goal.add_type-returns-in-Enum
add_type-returns-in-Enum t c = rw (c.in-Enum.is, view_enum c.in-Enum.variants) c.add_variants.ensures

some_items : (n : ℕ) → false ≡ (n == 0) → 0 < n
some_items zero e = absurd (grind (arith, e))
some_items (suc n) e = omega arith

-- The start of an enum's text.
begun_none : (before : List ℕ) (ns : List (Named Schema)) → length ns ≡ 0
    → ((before ++ codes "(") ++ codes "|") ++ named_variants_text (named_views ns) ≡ before ++ named_text (enum_view (named_views ns))
begun_none before [] none = append_assoc (before ++ codes "(") (codes "|") (codes ")") ∙ append_assoc before (codes "(") (codes "|)")
begun_none before (n ∷ ns) none = absurd (omega (arith, none))

begun_some : (before : List ℕ) (ns : List (Named Schema)) → 0 < length ns
    → (before ++ codes "(") ++ named_variants_text (named_views ns) ≡ before ++ named_text (enum_view (named_views ns))
begun_some before [] some = absurd (omega (arith, some))
begun_some before (n ∷ ns) some = append_assoc before (codes "(") (named_variants_text (named_views (n ∷ ns)))

pub add_variants-loop-variant-init : goal.add_variants-loop-variant-init
add_variants-loop-variant-init t c =
    let before = string_bytes c.args.text.now in
    let ns = c.deref-variant-items.result.now in
    elim c.if-is_empty.branch [
      | add_variants-then-is_empty+in_ok-push_str-2 w ↦
          let none : length ns ≡ 0 = omega (arith, eqb-true c.args.variants.now.len 0 (sym w.if-is_empty.ensures), c.deref-variant-items.ensures.len) in
          let text : string_bytes c.if-is_empty.text ≡ (before ++ codes "(") ++ codes "|" =
          ap string_bytes w.text-is ∙ w.in_ok-push_str-2.ensures.bytes ∙ ap (λ z. z ++ codes "|") c.in_ok-push_str.ensures.bytes in
          ap (λ z. z ++ named_variants_text (named_views ns)) text ∙ begun_none before ns none
      | add_variants-else-is_empty w ↦
          let some : 0 < length ns = omega (arith, some_items c.args.variants.now.len w.if-is_empty.ensures, c.deref-variant-items.ensures.len) in
          let text : string_bytes c.if-is_empty.text ≡ before ++ codes "(" = ap string_bytes w.text-is ∙ c.in_ok-push_str.ensures.bytes in
          ap (λ z. z ++ named_variants_text (named_views ns)) text ∙ begun_some before ns some
    ]
