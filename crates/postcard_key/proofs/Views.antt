-- The text of an enum with variants.
use Rattle.std.proofs.Common.{◌≡◌, ℕ, zero, suc, ◌<◌, ◌==◌, false, List, [], ◌∷◌, ◌++◌, length, refl, arith}
use Rattle.std.specs.Prelude.{codes}
use Rattle.postcard_schema.specs.Views.{enum_view, named_views}
use Rattle.postcard_schema.specs.declared.schema.Named.{Named}
use Rattle.postcard_schema.specs.declared.schema.Schema.{Schema}
use Rattle.postcard_schema.specs.Named.{named_text, named_variants_text}

pub enum_text : (ns : List (Named Schema)) → 0 < length ns → named_text (enum_view (named_views ns)) ≡ codes "(" ++ named_variants_text (named_views ns)
enum_text [] some = absurd (omega (arith, some))
enum_text (n ∷ ns) some = refl

pub some_items : (n : ℕ) → false ≡ (n == 0) → 0 < n
some_items zero e = absurd (grind (arith, e))
some_items (suc n) e = omega arith
