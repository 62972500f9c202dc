-- The type that an argument stands for, and when it stands for none.
use Rattle.std.specs.Prelude.{◌≡◌, ◌⊎◌, ℕ, List, Option}
use Rattle.postcard_schema.specs.declared.schema.Schema.{Schema}
use Rattle.postcard_schema_text.specs.Grammar.{IsExpression}
use Rattle.pcard_message.specs.Format.{TypeFails}
use Rattle.pcard_files.specs.TypeName.{HasExpression, IsFaultOf, IsNameWord}
use Rattle.pcard_compat.specs.declared.type_word.NoType.{NoType}
use Rattle.pcard_compat.specs.declared.type_word.NoType.TheVariants.{File, Expression}

-- The text is the expression that the argument stands for. If the argument names a type in a file, it is an expression of that type.
-- Otherwise it is the argument itself.
abbrev pub IsTextOf : (List ℕ → List ℕ → Type 0) → List ℕ → List ℕ → Type 0
IsTextOf gives word text =
    (((file : List ℕ) (name : Option (List ℕ)) → IsNameWord word file name → ⊥) × (text ≡ word))
    ⊎ ((file : List ℕ) × (name : Option (List ℕ)) × IsNameWord word file name × HasExpression gives file name text)

abbrev pub IsTypeOf : (List ℕ → List ℕ → Type 0) → List ℕ → Schema → Type 0
IsTypeOf gives word schema = (text : List ℕ) × IsTextOf gives word text × IsExpression schema text

-- The argument stands for no type: the file has none, or the expression is refused.
abbrev pub IsNoType : (List ℕ → List ℕ → Type 0) → (List ℕ → Type 0) → List ℕ → NoType → Type 0
IsNoType gives lacks word (File file fault) = (name : Option (List ℕ)) × IsNameWord word file.now name × IsFaultOf gives lacks file.now name fault
IsNoType gives lacks word (Expression failure) = (text : List ℕ) × IsTextOf gives word text × TypeFails text failure
