-- The shape of an enum without content, each variant of which is its index (wire format 1.0,
-- "unit_variant"), and the errors as such an enum.
use Rattle.std.proofs.Common.{refl, sym, ap, ◌∙◌}
use Rattle.std.specs.Prelude.{ℕ, ◌≡◌, ◌<◌, ◌^◌, List, [], ◌∷◌, get_or}
use Rattle.postcard_wire.proofs.Delimited.{end_delimited, group_delimited, fewer_delimited, variant_delimited}
use Rattle.postcard_wire.proofs.WellFormed.{end_well_formed, group_well_formed, variant_well_formed}
use Rattle.postcard_wire.specs.Reading.{IsDelimited, ReadsWellFormed, IsEnd, IsGroup, IsVariant}
use Rattle.postcard_wire.specs.Tree.{Tree, Variant, Group, NoTrees}
use Rattle.postcard_wire.specs.declared.error.Error.{Error}
use Rattle.postcard_wire.specs.declared.error.Error.TheVariants.{WontImplement, NotYetImplemented, SerializeBufferFull, SerializeSeqLengthUnknown, DeserializeUnexpectedEnd, DeserializeBadVarint, DeserializeBadBool, DeserializeBadChar, DeserializeBadUtf8, DeserializeBadOption, DeserializeBadEnum, DeserializeBadEncoding, DeserializeBadCrc, SerdeSerCustom, SerdeDeCustom, CollectStrError, OutOfMemory}
use Rattle.postcard_shape.specs.Shape.{HasOne, Shape, never}

-- The tree of the variant i of an enum, without content.
abbrev pub unit_variant : ℕ → Tree
unit_variant i = Variant i (Group NoTrees)

-- The index i is below n, and the content is an empty group.
abbrev pub IsUnit : ℕ → ℕ → Tree → Type 0
IsUnit n i t = (i < n) × IsGroup IsEnd t

pub units_delimited : (n : ℕ) → IsDelimited (IsVariant (IsUnit n))
units_delimited n = variant_delimited (IsUnit n)
    (λ i. fewer_delimited _ _ (λ t r. r.1) (group_delimited _ end_delimited))

pub units_well_formed : (n : ℕ) → ReadsWellFormed (IsVariant (IsUnit n))
units_well_formed n =
    variant_well_formed (IsUnit n) (λ i t r. group_well_formed _ end_well_formed t r.1)

index_same : (i j : ℕ) → unit_variant i ≡ unit_variant j → i ≡ j
index_same i j e = cc

pub unit_one : {V : Type 0} (index : V → ℕ) (at : ℕ → V) → ((v : V) → at (index v) ≡ v)
    → HasOne (λ t v. t ≡ unit_variant (index v)) (λ v w. v ≡ w)
unit_one index at back t v w h k =
    sym (back v) ∙ ap at (index_same (index v) (index w) (sym h ∙ k)) ∙ back w

-- The shape of an enum of n variants without content, given the index of each variant and the
-- variant at each index.
abbrev pub enumeration : {V : Type 0} → (n : ℕ) (index : V → ℕ) (at : ℕ → V)
    → ((v : V) → at (index v) ≡ v) → Shape V
enumeration n index at back = record {
  tree = λ v. unit_variant (index v);
  refusal = λ v. never;
  text = ⊥;
  reads = IsVariant (IsUnit n);
  value = λ t v. t ≡ unit_variant (index v);
  same = λ v w. v ≡ w;
  other = never;
  fits = λ v. (index v < n) × (index v < 2 ^ 32);
  delimited = units_delimited n;
  well_formed = units_well_formed n;
  one_value = unit_one index at back;
  again = λ v f. ((index v, Group NoTrees, refl, f.1, (f.0, (NoTrees, refl, refl))), refl);
}

-- The errors in the order of their indices: those of postcard 1.1.3 in its order, and then this
-- port's own.
abbrev pub errors : List Error
errors =
    WontImplement ∷ NotYetImplemented ∷ SerializeBufferFull ∷ SerializeSeqLengthUnknown
    ∷ DeserializeUnexpectedEnd ∷ DeserializeBadVarint ∷ DeserializeBadBool ∷ DeserializeBadChar
    ∷ DeserializeBadUtf8 ∷ DeserializeBadOption ∷ DeserializeBadEnum ∷ DeserializeBadEncoding
    ∷ DeserializeBadCrc ∷ SerdeSerCustom ∷ SerdeDeCustom ∷ CollectStrError ∷ OutOfMemory ∷ []

-- The error at an index below 17, and `OutOfMemory` at any other.
abbrev pub error_at : ℕ → Error
error_at i = get_or errors i OutOfMemory

-- The index of an error.
abbrev pub error_index : Error → ℕ
error_index WontImplement = 0
error_index NotYetImplemented = 1
error_index SerializeBufferFull = 2
error_index SerializeSeqLengthUnknown = 3
error_index DeserializeUnexpectedEnd = 4
error_index DeserializeBadVarint = 5
error_index DeserializeBadBool = 6
error_index DeserializeBadChar = 7
error_index DeserializeBadUtf8 = 8
error_index DeserializeBadOption = 9
error_index DeserializeBadEnum = 10
error_index DeserializeBadEncoding = 11
error_index DeserializeBadCrc = 12
error_index SerdeSerCustom = 13
error_index SerdeDeCustom = 14
error_index CollectStrError = 15
error_index OutOfMemory = 16

pub error_back : (e : Error) → error_at (error_index e) ≡ e
error_back WontImplement = refl
error_back NotYetImplemented = refl
error_back SerializeBufferFull = refl
error_back SerializeSeqLengthUnknown = refl
error_back DeserializeUnexpectedEnd = refl
error_back DeserializeBadVarint = refl
error_back DeserializeBadBool = refl
error_back DeserializeBadChar = refl
error_back DeserializeBadUtf8 = refl
error_back DeserializeBadOption = refl
error_back DeserializeBadEnum = refl
error_back DeserializeBadEncoding = refl
error_back DeserializeBadCrc = refl
error_back SerdeSerCustom = refl
error_back SerdeDeCustom = refl
error_back CollectStrError = refl
error_back OutOfMemory = refl
