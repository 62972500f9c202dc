-- Which type a name of a file of declarations stands for.
use Rattle.std.specs.Prelude.{◌≡◌, ℕ, true, List}
use Rattle.postcard_schema.specs.declared.schema.Schema.{Schema}
use Rattle.postcard_schema_text.specs.Grammar.{IsExpression}
use Rattle.postcard_source.specs.declared.token.Token.{Token}
use Rattle.postcard_source.specs.declared.declaration.Declaration.{Declaration}
use Rattle.postcard_source.specs.declared.error.FileProblem.{FileProblem}
use Rattle.postcard_source.specs.declared.error.FileError.{FileError}
use Rattle.postcard_source.specs.Lexical.{IsRead}
use Rattle.postcard_source.specs.Kept.{AreKept}
use Rattle.postcard_source.specs.Items.{AreDeclarations}
use Rattle.postcard_source.specs.Expands.{IsSpelledBy, HasProblem}
use Rattle.postcard_source.specs.Places.{IsPlace}
use Rattle.postcard_source.specs.Printed.{is_of_type}

-- These are the tokens of the file that are kept, and its declarations.
abbrev pub IsFileOf : List ℕ → List Token → List Declaration → Type 0
IsFileOf file kept known = ((tokens : List Token) × IsRead file tokens × AreKept tokens kept) × AreDeclarations kept known

-- The text is what the declaration of the file with this name stands for, which isn't recursive.
abbrev pub IsExpressionOf : List ℕ → List ℕ → List ℕ → Type 0
IsExpressionOf file name text = (kept : List Token) × (known : List Declaration) × IsFileOf file kept known × IsSpelledBy kept known name text

-- In the file, the name stands for the type of this schema: its text is a type expression of the schema.
abbrev pub IsTypeOf : List ℕ → List ℕ → Schema → Type 0
IsTypeOf file name schema = (text : List ℕ) × IsExpressionOf file name text × IsExpression schema text

-- If the problem is one of the type, the file has tokens and declarations of which the name has this problem (see `HasProblem`).
abbrev pub HasProblemOf : List ℕ → List ℕ → FileProblem → Type 0
HasProblemOf file name problem = (is_of_type problem ≡ true) → (kept : List Token) × (known : List Declaration) × IsFileOf file kept known × HasProblem kept known name problem

-- The error's line and column are those of a place in the file.
abbrev pub IsWithin : List ℕ → FileError → Type 0
IsWithin file e = (k : ℕ) × IsPlace file k e.line e.column
