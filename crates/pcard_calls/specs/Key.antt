-- What `key` prints, and how it fails.
use Rattle.std.specs.Prelude.{⊤, ℕ, Bool, true, false, List, [], ◌∷◌, ◌++◌, Option}
use Rattle.std.specs.Int.{w64, to_be_bytes}
use Rattle.std.specs.Io.KnownBytes.{Appends}
use Rattle.hex.specs.Hex.{encode_lower}
use Rattle.postcard_key.specs.Keys.{IsKey, IsNamedKey}
use Rattle.postcard_schema.specs.Meaning.{type_of}
use Rattle.postcard_schema.specs.Views.{view}
use Rattle.postcard_schema.specs.declared.schema.Schema.{Schema}
use Rattle.postcard_schema_text.specs.Grammar.{IsExpression}
use Rattle.pcard_message.specs.Format.{TypeFails}
use Rattle.pcard_message.specs.declared.failure.Failure.{Failure}
use Rattle.pcard_message.specs.declared.failure.Failure.TheVariants.{Output}

-- The number is the key of the type: with its names if they count.
abbrev pub IsKeyOf : Bool → Schema → ℕ → Type 0
IsKeyOf true schema number = IsNamedKey (view schema) number
IsKeyOf false schema number = IsKey (type_of schema) number

-- The key of the expression's type is printed on a line, in 16 hexadecimal digits, the highest first.
pub record PrintsKey (expression : List ℕ) (names : Bool) (old new : Option (List ℕ)) : Type 0 where
  pub schema : Schema
  pub spelled : IsExpression schema expression
  pub number : ℕ
  pub is : IsKeyOf names schema number
  pub printed : Appends old new (encode_lower (to_be_bytes w64 number) ++ 10 ∷ [])

-- When each failure of `key` comes.
abbrev pub KeyFails : List ℕ → Failure → Type 0
KeyFails expression Output = ⊤
KeyFails expression failure = TypeFails expression failure
