-- The view of a schema has the type of the schema.
use Rattle.std.proofs.Common.{◌≡◌, List, [], ◌∷◌, map, refl, sym, ap, ap₂, subst}
use Rattle.postcard_schema.specs.declared.schema.Named.{Named}
use Rattle.postcard_schema.specs.declared.schema.Schema.{Schema, map-Schema, fold-roll-Schema, ind-Schema, roll-Schema}
use Rattle.postcard_schema.specs.declared.schema.Schema.TheOpen.{Schema-F}
use Rattle.postcard_schema.specs.declared.schema.Schema.TheOpen as open_schema
use Rattle.postcard_schema.specs.declared.schema.Schema.TheShapes.{former-Schema-Struct-0-at-2}
use Rattle.postcard_schema.specs.Meaning.{MessageType, MessageTypes, array, choice, contents, entry_of, group, option, row_of, seq, then_type, type_of, type_step}
use Rattle.postcard_schema.specs.Views.{View, held_types, message_type, message_types, named, named_of, view, view_step, views_of}

-- A schema of which this is known.
abbrev Told : Type 0
Told = (s : Schema) × (message_type (view s) ≡ type_of s)

abbrev schema_in : Told → Schema
schema_in e = e.0

parts_told : (es : List Told) → message_types (views_of (map view (map schema_in es))) ≡ row_of (map type_of (map schema_in es))
parts_told [] = refl
parts_told (e ∷ es) = ap₂ then_type e.1 (parts_told es)

abbrev told_views : List (Named Told) → MessageTypes
told_views es = held_types (named_of (map (named (λ (v : View). v)) (map (former-Schema-Struct-0-at-2.map Schema View view) (map (former-Schema-Struct-0-at-2.map Told Schema schema_in) es))))

abbrev told_types : List (Named Told) → MessageTypes
told_types es = row_of (contents (map (former-Schema-Struct-0-at-2.map Schema MessageType type_of) (map (former-Schema-Struct-0-at-2.map Told Schema schema_in) es)))

names_told : (es : List (Named Told)) → told_views es ≡ told_types es
names_told [] = refl
names_told (e ∷ es) = ap₂ then_type e.content.1 (names_told es)

step_told : (y : Schema-F Told) → message_type (view_step (map-Schema Schema View view (map-Schema Told Schema schema_in y)))
    ≡ type_step (map-Schema Schema MessageType type_of (map-Schema Told Schema schema_in y))
step_told (open_schema.Leaf l) = refl
step_told (open_schema.Option b) = ap option b.value.1
step_told (open_schema.Seq b) = ap seq b.value.1
step_told (open_schema.Map k v) = ap₂ (λ a b. seq (entry_of a b)) k.value.1 v.value.1
step_told (open_schema.Array b n) = ap (array n) b.value.1
step_told (open_schema.Tuple v) = ap group (parts_told v.items)
step_told (open_schema.Struct v) = ap group (names_told v.items)
step_told (open_schema.Enum v) = ap choice (names_told v.items)

-- The view of a schema has the schema's type.
pub typed : (s : Schema) → message_type (view s) ≡ type_of s
typed = ind-Schema (λ s. message_type (view s) ≡ type_of s) (λ x y is.
    let inner = subst (λ z. message_type (view_step (map-Schema Schema View view z)) ≡ type_step (map-Schema Schema MessageType type_of z)) is (step_told y) in
    subst (λ m. message_type (view (roll-Schema x)) ≡ m) (sym (fold-roll-Schema MessageType type_step x))
    (subst (λ v. message_type v ≡ type_step (map-Schema Schema MessageType type_of x)) (sym (fold-roll-Schema View view_step x)) inner))
