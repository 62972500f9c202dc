-- Why the functions end: by the depth that is left, and by their order at one depth. The invariants say what each loop has taken.
-- Signs are bytes: 41 is `)`, 44 `,`, 124 `|`.
use Rattle.std.proofs.Common.{ℕ, ◌+◌, ◌*◌, ◌-◌, ◌≤◌, List, length}
use Rattle.postcard_schema.specs.declared.schema.Schema.{Schema}
use Rattle.postcard_schema.specs.Meaning.{type_of}
use Rattle.postcard_schema_text.specs.Names.{NamesDiffer}
use Rattle.postcard_schema_text.specs.Text.{TakesPhrase, IsSign, GoesOnBy}
use Rattle.postcard_schema_text.specs.Grammar.{Separated, IsTupleRest, IsField, IsFieldsRest, IsReferred, IsOptions, IsVariantText, IsEnumText, IsType}
use Rattle.postcard_schema_text.specs.Fronts.{follows_type}
use Rattle.postcard_schema_text.proofs.LeftOfFields.{FieldsLeft}
use Rattle.postcard_schema_text.proofs.LeftOfTuple.{TupleAfter}
use Rattle.postcard_schema_text.proofs.LeftOfEnum.{EnumLeft}
use Rattle.postcard_schema_text.proofs.LeftOfType.{OptionsLeft}
use Rattle.postcard_schema_text.proofs.Rows.{Begun}
use Rattle.postcard_schema_text.proofs.types.+types.Given as goal

abbrev pub decreases-read_type : goal.decreases-read_type
decreases-read_type l = 8 * l.depth

abbrev pub decreases-read_referred : goal.decreases-read_referred
decreases-read_referred l = 8 * l.depth + 6

abbrev pub decreases-read_plain : goal.decreases-read_plain
decreases-read_plain l = 8 * l.depth + 5

abbrev pub decreases-read_worded : goal.decreases-read_worded
decreases-read_worded l = 8 * l.depth + 4

abbrev pub decreases-read_angled : goal.decreases-read_angled
decreases-read_angled l = 8 * l.depth + 3

abbrev pub decreases-read_holder : goal.decreases-read_holder
decreases-read_holder l = 8 * l.depth + 2

abbrev pub decreases-read_pair : goal.decreases-read_pair
decreases-read_pair l = 8 * l.depth + 2

abbrev pub decreases-read_ended : goal.decreases-read_ended
decreases-read_ended l = 8 * l.depth + 1

abbrev pub decreases-read_list : goal.decreases-read_list
decreases-read_list l = 8 * l.depth + 1

abbrev pub decreases-read_tuple : goal.decreases-read_tuple
decreases-read_tuple l = 8 * l.depth + 1

abbrev pub decreases-read_braces : goal.decreases-read_braces
decreases-read_braces l = 8 * l.depth + 3

abbrev pub decreases-read_fields : goal.decreases-read_fields
decreases-read_fields l = 8 * l.depth + 2

abbrev pub decreases-read_field : goal.decreases-read_field
decreases-read_field l = 8 * l.depth + 1

abbrev pub decreases-read_map : goal.decreases-read_map
decreases-read_map l = 8 * l.depth + 2

abbrev pub decreases-read_enum : goal.decreases-read_enum
decreases-read_enum l = 8 * l.depth + 5

abbrev pub decreases-read_variant : goal.decreases-read_variant
decreases-read_variant l = 8 * l.depth + 4

abbrev pub decreases-read_content : goal.decreases-read_content
decreases-read_content l = 8 * l.depth + 3

abbrev pub invariant-read_enum-loop : goal.invariant-read_enum-loop
invariant-read_enum-loop l = record {
  begun : Begun (IsVariantText (IsType l.depth)) 124 l.variants.items l.initial.rest.now l.rest.now;
  differ : NamesDiffer l.variants.items;
  short : length l.rest.now + l.counter ≤ length l.initial.rest.now;
  left : (s : Schema) (r : List ℕ) → TakesPhrase (IsEnumText (IsType l.depth) s) l.fn.rest.now r → GoesOnBy follows_type r
      → EnumLeft (IsType l.depth) l.variants.items l.leads s l.rest.now r;
}

abbrev pub invariant-read_fields-loop : goal.invariant-read_fields-loop
invariant-read_fields-loop l = record {
  begun : Begun (IsField (IsType l.depth)) 44 l.fields.items l.initial.rest.now l.rest.now;
  differ : NamesDiffer l.fields.items;
  short : length l.rest.now + l.counter ≤ length l.initial.rest.now;
  left : (s : Schema) (r : List ℕ) → TakesPhrase (IsFieldsRest (IsType l.depth) s) l.fn.rest.now r → FieldsLeft (IsType l.depth) l.fields.items s l.rest.now r;
}

abbrev pub invariant-read_tuple-loop : goal.invariant-read_tuple-loop
invariant-read_tuple-loop l = record {
  taken : TakesPhrase (Separated (IsType l.depth) 44 l.parts.items) l.fn.rest.now l.rest.now;
  short : length l.rest.now + l.counter ≤ length l.initial.rest.now;
  unclosed : (e : List ℕ) → TakesPhrase (IsSign 41) l.rest.now e → ⊥;
  left : (s : Schema) (r : List ℕ) → TakesPhrase (IsTupleRest (IsType l.depth) s) l.fn.rest.now r → TupleAfter l.depth l.parts.items s l.rest.now r;
}

-- A type is next if and only if it was before the references.
abbrev pub invariant-read_referred-references : goal.invariant-read_referred-references
invariant-read_referred-references l = record {
  left : (s : Schema) (r : List ℕ) → TakesPhrase (IsReferred (IsType l.depth) s) l.fn.rest.now r → TakesPhrase (IsReferred (IsType l.depth) s) l.rest.now r;
  takes : (s : Schema) (r : List ℕ) → TakesPhrase (IsReferred (IsType l.depth) s) l.rest.now r → TakesPhrase (IsReferred (IsType l.depth) s) l.fn.rest.now r;
}

abbrev pub decreases-read_referred-references : goal.decreases-read_referred-references
decreases-read_referred-references l = length l.rest.now

abbrev pub invariant-read_type-loop : goal.invariant-read_type-loop
invariant-read_type-loop l = record {
  taken : TakesPhrase (IsOptions l.counter (IsReferred (IsType (l.depth - 1))) l.schema) l.fn.rest.now l.rest.now;
  left : (s : Schema) (r : List ℕ) → TakesPhrase (IsType l.depth s) l.fn.rest.now r → GoesOnBy follows_type r → OptionsLeft s (type_of l.schema) l.counter l.rest.now r;
}
