-- The names of types in files, and when one stands for no type.
use Rattle.std.specs.Prelude.{◌≡◌, ◌≢◌, ⊤, ℕ, ◌<◌, List, ◌∷◌, ◌++◌, length, slice_index, Option, Some, None}
use Rattle.std.specs.Borrow.{Bor}
use Rattle.std.specs.Str.{IsUtf8}
use Rattle.postcard_schema.specs.Views.{view}
use Rattle.postcard_schema.specs.declared.schema.Schema.{Schema}
use Rattle.postcard_schema_text.specs.Grammar.{IsExpression}
use Rattle.postcard_schema_text.specs.declared.error.Problem.TheVariants as problems
use Rattle.postcard_source.specs.Files.{IsExpressionOf, HasProblemOf, IsWithin}
use Rattle.postcard_source.specs.declared.error.FileError.{FileError}
use Rattle.postcard_source.specs.declared.error.FileProblem.TheVariants.{Expression}
use Rattle.postcard_schema_text.specs.{IsTextRefusal}
use Rattle.postcard_schema_text.specs.declared.error.TextError.{TextError}
use Rattle.postcard_schema_text.specs.declared.error.TextError.TheVariants as texts
use Rattle.pcard_files.specs.SchemaFile.{Describes, DescribesNone}
use Rattle.pcard_files.specs.declared.fault.TypeFault.{TypeFault}
use Rattle.pcard_files.specs.declared.fault.TypeFault.TheVariants.{Unreadable, TooLong, NoText, Wrong, NoExpression, OutOfMemory}

-- The bytes of a borrowed text, if there is one.
abbrev pub bytes_of : Option (Bor (List ℕ)) → Option (List ℕ)
bytes_of None = None
bytes_of (Some text) = Some text.now

-- The text has no `:`.
abbrev pub HasNoColon : List ℕ → Type 0
HasNoColon text = (k : ℕ) → k < length text → slice_index text k ≢ 58

-- The word is `@` and the name of a file. With the name of a type, that follows a `:`. The last name in the word has no `:`.
abbrev pub IsNameWord : List ℕ → List ℕ → Option (List ℕ) → Type 0
IsNameWord word file (Some name) = (word ≡ 64 ∷ (file ++ 58 ∷ name)) × HasNoColon name
IsNameWord word file None = (word ≡ 64 ∷ file) × HasNoColon file

-- The text is an expression of the type that a file with these bytes declares with the name, or without a name of the type that it describes.
abbrev pub IsTextIn : List ℕ → Option (List ℕ) → List ℕ → Type 0
IsTextIn content (Some name) text = IsExpressionOf content name text
IsTextIn content None text = (schema : Schema) × Describes content schema × IsExpression schema text

-- The text is an expression of the type in the file, whose bytes may be these.
abbrev pub HasExpression : (List ℕ → List ℕ → Type 0) → List ℕ → Option (List ℕ) → List ℕ → Type 0
HasExpression gives file name text = (content : List ℕ) × gives file content × IsTextIn content name text

-- The file has no such type, by this error, whose place is one in the file, and which is none of memory.
abbrev pub IsWrong : List ℕ → List ℕ → FileError → Type 0
IsWrong content name error = HasProblemOf content name error.problem × IsWithin content error × (error.problem ≢ Expression problems.OutOfMemory)

-- The file describes a schema that has no expression, by this error, which is none of memory.
abbrev pub IsUnwritable : List ℕ → TextError → Type 0
IsUnwritable content error = (schema : Schema) × Describes content schema × IsTextRefusal error (view schema) × (error ≢ texts.OutOfMemory)

-- A file with these bytes has no such type: with a name it is no text, or has no such type; without one it describes no schema, or one
-- without an expression. Or memory runs out.
abbrev pub IsFaultIn : List ℕ → Option (List ℕ) → TypeFault → Type 0
IsFaultIn content (Some name) NoText = IsUtf8 content → ⊥
IsFaultIn content (Some name) (Wrong error) = IsWrong content name error
IsFaultIn content (Some name) OutOfMemory = ⊤
IsFaultIn content (Some name) fault = ⊥
IsFaultIn content None (NoExpression error) = IsUnwritable content error
IsFaultIn content None fault = DescribesNone content fault

-- The name stands for no type, since the file can't be read, has too many bytes, or has no such type; or memory runs out.
abbrev pub IsFaultOf : (List ℕ → List ℕ → Type 0) → (List ℕ → Type 0) → List ℕ → Option (List ℕ) → TypeFault → Type 0
IsFaultOf gives lacks file name Unreadable = lacks file
IsFaultOf gives lacks file name TooLong = (content : List ℕ) × gives file content × (1048576 < length content)
IsFaultOf gives lacks file name OutOfMemory = ⊤
IsFaultOf gives lacks file name fault = (content : List ℕ) × gives file content × IsFaultIn content name fault

-- The fault is that of the error: memory ran out, or the file is wrong.
abbrev pub IsFaultBy : FileError → TypeFault → Type 0
IsFaultBy error (Wrong wrong) = (wrong ≡ error) × (error.problem ≢ Expression problems.OutOfMemory)
IsFaultBy error OutOfMemory = error.problem ≡ Expression problems.OutOfMemory
IsFaultBy error fault = ⊥

-- The fault is that of the error: memory ran out, or the schema has no expression.
abbrev pub IsTextFault : TextError → TypeFault → Type 0
IsTextFault error (NoExpression refused) = (refused ≡ error) × (error ≢ texts.OutOfMemory)
IsTextFault error OutOfMemory = error ≡ texts.OutOfMemory
IsTextFault error fault = ⊥
