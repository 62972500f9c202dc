-- Messages of a type that an expression says, and their texts, as the calls for C return them.
use Rattle.std.specs.Prelude.{◌≡◌, ℕ, ◌<◌, List, ◌++◌, length, drop, IfSome}
use Rattle.postcard_wire.specs.Spelling.{canonical}
use Rattle.postcard_wire.specs.declared.error.Error.{Error}
use Rattle.postcard_shape.specs.Shape.{never}
use Rattle.postcard_de.specs.Reads.{IsReadError}
use Rattle.postcard_de.specs.Front.{ReadsFront}
use Rattle.postcard_schema.specs.declared.path.Step.{Step}
use Rattle.postcard_schema.specs.declared.schema.Schema.{Schema}
use Rattle.postcard_schema_text.specs.Grammar.{IsExpression}
use Rattle.postcard_schema.specs.Meaning.{type_of, reads}
use Rattle.postcard_value.specs.Fronts.{HasNoFront}
use Rattle.postcard_value.specs.Refused.{IsRefusedAt}
use Rattle.postcard_value.specs.Tree.{tree, IsTree}
use Rattle.postcard_value.specs.declared.value.Value.{Value}
use Rattle.postcard_value_text.specs.Layout.{layout_of}
use Rattle.postcard_value_text.specs.Shown.{text}
use Rattle.postcard_value_text.specs.Spelled.{SpellsValue}
use Rattle.postcard_wire.specs.Status.{number_of}

-- The first `taken` of the bytes spell a value of the type that the expression says.
pub record HasMessage (expression bytes : List ℕ) (taken : ℕ) : Type 0 where
  pub schema : Schema
  pub spelled : IsExpression schema expression
  pub value : Value
  pub is : ReadsFront (reads (type_of schema)) IsTree bytes value (drop taken bytes)

-- No front of the bytes spells a value of the schema, reading one stops at the offset `place`, and the status is the number of an error
-- of reading.
pub record IsRefused (schema : Schema) (bytes : List ℕ) (place status : ℕ) : Type 0 where
  pub none : HasNoFront schema bytes
  pub path : List Step
  pub at : IsRefusedAt schema bytes path place
  pub error : Error
  pub named : IsReadError never error
  pub number : status ≡ number_of error

-- So it is for the type that the expression says.
pub record HasNoMessage (expression bytes : List ℕ) (place status : ℕ) : Type 0 where
  pub schema : Schema
  pub spelled : IsExpression schema expression
  pub refused : IsRefused schema bytes place status

-- The first `taken` of the bytes spell a value of the type that the expression says, and `shown` is
-- its text.
pub record Shows (expression bytes : List ℕ) (taken : ℕ) (shown : List ℕ) : Type 0 where
  pub schema : Schema
  pub spelled : IsExpression schema expression
  pub value : Value
  pub is : ReadsFront (reads (type_of schema)) IsTree bytes value (drop taken bytes)
  pub printed : IfSome (text (layout_of schema) (tree value)) (λ printed. shown ≡ printed)

-- The text spells a value of the type that the expression says, and `message` is its canonical
-- encoding.
pub record Encodes (expression told message : List ℕ) : Type 0 where
  pub schema : Schema
  pub spelled : IsExpression schema expression
  pub value : Value
  pub is_value : reads (type_of schema) (tree value)
  pub is_text : SpellsValue schema value told
  pub is : message ≡ canonical (tree value)

-- The buffer begins with the bytes xs, and has its old bytes after them; or they have no room, and
-- the buffer is unchanged. The count is their number in both cases.
pub record CopiesOut (xs old new : List ℕ) (count status : ℕ) : Type 0 where
  pub counts : count ≡ length xs
  pub fills : status ≡ 0 → new ≡ xs ++ drop (length xs) old
  pub no_room : status ≡ 2 → (length old < length xs) × (new ≡ old)
