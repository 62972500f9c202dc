-- Which types have a type expression, and why others have none. A type with one has the text of the type as its expression (`named_text`).
use Rattle.std.specs.Prelude.{◌≡◌, ℕ, zero, suc, ◌^◌, ◌<◌, true, false, ◌⊎◌, List}
use Rattle.std.specs.List.{AllPass}
use Rattle.postcard_schema.specs.declared.leaf.Leaf.{Leaf}
use Rattle.postcard_schema.specs.declared.leaf.Leaf.TheVariants as leaves
use Rattle.postcard_schema.specs.declared.schema.Schema.{Schema}
use Rattle.postcard_schema.specs.Leaves.{size_of}
use Rattle.postcard_schema.specs.Meaning.{entry_of, has_bytes}
use Rattle.postcard_schema.specs.Views.{View, Views, NamedViews, leaf_view, option_view, seq_view, map_view, array_view, tuple_view, struct_view, enum_view, no_views, then_view, no_names, then_name, message_type}
use Rattle.postcard_schema_text.specs.declared.expressible.Kind.{Kind}
use Rattle.postcard_schema_text.specs.declared.expressible.Kind.TheVariants as kinds
use Rattle.postcard_schema_text.specs.declared.error.TextError.{TextError}
use Rattle.postcard_schema_text.specs.declared.error.TextError.TheVariants.{Name, NameTwice, Empty, NoBytes, NarrowNumber, TooDeep, OutOfMemory}
use Rattle.postcard_schema_text.specs.Grammar.{IsExpression}
use Rattle.postcard_schema_text.specs.Text.{IsIdentifier, IsVariantName, is_of_word}

-- A name that an expression may have, of a field or of a variant. All its bytes are those of a word.
abbrev pub IsNameFor : Kind → List ℕ → Type 0
IsNameFor kinds.Field name = AllPass is_of_word name × IsIdentifier name
IsNameFor kinds.Variant name = AllPass is_of_word name × IsVariantName name

-- One of the fields or variants has the name.
abbrev pub IsTakenBy : NamedViews → List ℕ → Type 0
IsTakenBy no_names name = ⊥
IsTakenBy (then_name other v ns) name = (other ≡ name) ⊎ IsTakenBy ns name

-- None of the fields or variants has the name.
abbrev pub IsFreeIn : NamedViews → List ℕ → Type 0
IsFreeIn no_names name = Unit {0}
IsFreeIn (then_name other v ns) name = (other ≡ name → ⊥) × IsFreeIn ns name

-- An expression may have these names. No two of them are equal.
abbrev pub AreNames : Kind → NamedViews → Type 0
AreNames kind no_names = Unit {0}
AreNames kind (then_name name v ns) = IsNameFor kind name × IsFreeIn ns name × AreNames kind ns

-- A name is the reason e. The reason is `Name` if no expression may have the name, and `NameTwice` if a later field or variant has it, too.
abbrev pub HasNameFlaw : TextError → Kind → NamedViews → Type 0
HasNameFlaw e kind no_names = ⊥
HasNameFlaw e kind (then_name name v ns) = ((e ≡ Name) × (IsNameFor kind name → ⊥)) ⊎ (((e ≡ NameTwice) × IsTakenBy ns name) ⊎ HasNameFlaw e kind ns)

-- There is at least one field or variant, and an expression may have the names.
abbrev pub AreSomeNames : Kind → NamedViews → Type 0
AreSomeNames kind no_names = ⊥
AreSomeNames kind (then_name name v ns) = AreNames kind (then_name name v ns)

-- Why not, for the reason e. The reason is `Empty` if there is no field or variant.
abbrev pub HasNamesFlaw : TextError → Kind → NamedViews → Type 0
HasNamesFlaw e kind no_names = e ≡ Empty
HasNamesFlaw e kind (then_name name v ns) = HasNameFlaw e kind (then_name name v ns)

-- A type without parts has an expression, with n further levels of brackets in it. Numbers at their full width have 16 bits or more.
abbrev pub LeafHasText : ℕ → Leaf → Type 0
LeafHasText n (leaves.Fixed order integer) = (0 < n) × (1 < size_of integer)
LeafHasText n l = Unit {0}

-- Why it has none, for the reason e.
abbrev pub LeafHasFlaw : TextError → ℕ → Leaf → Type 0
LeafHasFlaw e n (leaves.Fixed order integer) = ((e ≡ TooDeep) × (n ≡ 0)) ⊎ ((e ≡ NarrowNumber) × (size_of integer ≡ 1))
LeafHasFlaw e n l = ⊥

-- The type has an expression, with brackets nested at most n deep, where the type itself has depth 1. An enum is two levels: it has `(` before
-- its first variant, and each content has `(` again.
abbrev mutual
  pub HasText : ℕ → View → Type 0
  HasText zero v = ⊥
  HasText (suc n) (leaf_view l) = LeafHasText n l
  HasText (suc n) (option_view v) = HasText n v
  HasText (suc n) (seq_view v) = (has_bytes (message_type v) ≡ true) × HasText n v
  HasText (suc n) (map_view k v) = (has_bytes (entry_of (message_type k) (message_type v)) ≡ true) × HasText n k × HasText n v
  HasText (suc n) (array_view count v) = (count < 2 ^ 64) × ((has_bytes (message_type v) ≡ true) × HasText n v)
  HasText (suc n) (tuple_view vs) = AllHaveText n vs
  HasText (suc n) (struct_view ns) = AreSomeNames kinds.Field ns × ContentsHaveText n ns
  HasText (suc zero) (enum_view ns) = ⊥
  HasText (suc (suc n)) (enum_view ns) = AreSomeNames kinds.Variant ns × ContentsHaveText n ns

  pub AllHaveText : ℕ → Views → Type 0
  AllHaveText n no_views = Unit {0}
  AllHaveText n (then_view v vs) = HasText n v × AllHaveText n vs

  pub ContentsHaveText : ℕ → NamedViews → Type 0
  ContentsHaveText n no_names = Unit {0}
  ContentsHaveText n (then_name name v ns) = HasText n v × ContentsHaveText n ns

-- Why the type has no such expression: the type, or a type in it, is the reason e. The reason is `TooDeep` at a type nested more than n deep.
abbrev mutual
  pub HasFlaw : TextError → ℕ → View → Type 0
  HasFlaw e zero v = e ≡ TooDeep
  HasFlaw e (suc n) (leaf_view l) = LeafHasFlaw e n l
  HasFlaw e (suc n) (option_view v) = HasFlaw e n v
  HasFlaw e (suc n) (seq_view v) = ((e ≡ NoBytes) × (has_bytes (message_type v) ≡ false)) ⊎ HasFlaw e n v
  HasFlaw e (suc n) (map_view k v) = ((e ≡ NoBytes) × (has_bytes (entry_of (message_type k) (message_type v)) ≡ false)) ⊎ (HasFlaw e n k ⊎ HasFlaw e n v)
  HasFlaw e (suc n) (array_view count v) = ((e ≡ NoBytes) × (has_bytes (message_type v) ≡ false)) ⊎ HasFlaw e n v
  HasFlaw e (suc n) (tuple_view vs) = SomeHasFlaw e n vs
  HasFlaw e (suc n) (struct_view ns) = HasNamesFlaw e kinds.Field ns ⊎ SomeContentHasFlaw e n ns
  HasFlaw e (suc zero) (enum_view ns) = e ≡ TooDeep
  HasFlaw e (suc (suc n)) (enum_view ns) = HasNamesFlaw e kinds.Variant ns ⊎ SomeContentHasFlaw e n ns

  pub SomeHasFlaw : TextError → ℕ → Views → Type 0
  SomeHasFlaw e n no_views = ⊥
  SomeHasFlaw e n (then_view v vs) = HasFlaw e n v ⊎ SomeHasFlaw e n vs

  pub SomeContentHasFlaw : TextError → ℕ → NamedViews → Type 0
  SomeContentHasFlaw e n no_names = ⊥
  SomeContentHasFlaw e n (then_name name v ns) = HasFlaw e n v ⊎ SomeContentHasFlaw e n ns

-- The element type of a list or an array has bytes and an expression.
abbrev pub ElementHasText : ℕ → View → Type 0
ElementHasText n v = (has_bytes (message_type v) ≡ true) × HasText n v

-- Why not, for the reason e.
abbrev pub ElementHasFlaw : TextError → ℕ → View → Type 0
ElementHasFlaw e n v = ((e ≡ NoBytes) × (has_bytes (message_type v) ≡ false)) ⊎ HasFlaw e n v

-- The key type and the value type of a map have expressions, and one of them has bytes.
abbrev pub EntryHasText : ℕ → View → View → Type 0
EntryHasText n k v = (has_bytes (entry_of (message_type k) (message_type v)) ≡ true) × HasText n k × HasText n v

-- Why not, for the reason e.
abbrev pub EntryHasFlaw : TextError → ℕ → View → View → Type 0
EntryHasFlaw e n k v = ((e ≡ NoBytes) × (has_bytes (entry_of (message_type k) (message_type v)) ≡ false)) ⊎ (HasFlaw e n k ⊎ HasFlaw e n v)

-- The fields or variants have names and contents of an expression, and there is at least one.
abbrev pub NamedHaveText : ℕ → Kind → NamedViews → Type 0
NamedHaveText n kind ns = AreSomeNames kind ns × ContentsHaveText n ns

-- Why not, for the reason e.
abbrev pub NamedHaveFlaw : TextError → ℕ → Kind → NamedViews → Type 0
NamedHaveFlaw e n kind ns = HasNamesFlaw e kind ns ⊎ SomeContentHasFlaw e n ns

-- The type has an expression within the limit of `parse`.
abbrev pub IsExpressible : View → Type 0
IsExpressible v = HasText 64 v

-- Why the text of a type is refused: an allocation failed, or the type has no such expression for this reason.
abbrev pub IsTextRefusal : TextError → View → Type 0
IsTextRefusal OutOfMemory v = Unit {0}
IsTextRefusal e v = HasFlaw e 64 v

-- No text at all is an expression of the schema.
abbrev pub HasNoExpression : Schema → Type 0
HasNoExpression s = (text : List ℕ) → IsExpression s text → ⊥
