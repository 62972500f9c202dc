-- An index of an error has no content after it; any other index is refused.
use Rattle.std.proofs.Common.{◌≡◌, ℕ, ◌<◌, ◌≤◌, List, Option, Ok, refl, sym, ap, ap₂, ◌∙◌, arith, rules}
use Rattle.postcard_wire.specs.Tree.{Variant, Group, NoTrees}
use Rattle.postcard_wire.specs.Spelling.{Spells}
use Rattle.postcard_wire.specs.Reading.{IsEnd, IsGroup}
use Rattle.postcard_de_flavors.specs.Source.{Left, Laws}
use Rattle.postcard_shape.specs.Shape.{never}
use Rattle.postcard_shape.specs.Enumerations.{IsUnit}
use Rattle.postcard_de.specs.Deserializer.{source_of}
use Rattle.postcard_de.specs.Reads.{ReadsFrom}
use Rattle.postcard_de.proofs.Parts.{struct_read, no_more}
use Rattle.postcard_de.proofs.Enums.{variant_read, unknown_index}
use Rattle.postcard_de_nodes.specs.SeenLemmas.{seen_as}
use Rattle.postcard_de.proofs.values.error.ErrorDeserialize.deserialize.Goals as goal

-- A variant without content: reading the content takes nothing.
unit_read : {S : Type 0} {left : S → Left} {able : S → ℕ → Type 0}
    {may_leave : S → S → Type 0} (laws : Laws left able may_leave) {i : ℕ} {s t : S} → i < 17 →
    t ≡ s → ReadsFrom {V = Unit {0}} Spells (IsUnit 17 i) (λ u v. u ≡ Group NoTrees) never left able
    may_leave s (Ok tt) t
unit_read {left = left} {able} {may_leave} laws {i} {s} few e =
    let none : ReadsFrom {V = Unit {0}} Spells (IsGroup IsEnd) (λ u v. Unit {0}) never left able
    may_leave s (Ok tt) s =
    struct_read laws {A = Unit {0}} {value = λ u v. Unit {0}} {a = tt} (λ u h. tt) (no_more laws)
    in
    rw e (seen_as (λ u r. r.1) (λ u r h. ((few, r), r.1 ∙ ap Group r.2)) none)

pub returns-in_ok-unit_variant-in-Some : goal.returns-in_ok-unit_variant-in-Some
returns-in_ok-unit_variant-in-Some g c =
    let laws = g.F.Flavor.lawful in
    variant_read laws (λ t h. ap₂ Variant (sym c.in-Some.ensures.known) h)
    c.in_ok-index.ensures.reads
    (unit_read laws c.in-Some.ensures.few (ap source_of c.unit_variant.ensures.unchanged))

pub returns-in-None : goal.returns-in-None
returns-in-None g c =
    let many : 17 ≤ c.in_ok-index.index = search rules in
    unknown_index g.F.Flavor.lawful tt (λ t r. absurd (omega (arith, many, r.0)))
    c.in_ok-index.ensures.reads
