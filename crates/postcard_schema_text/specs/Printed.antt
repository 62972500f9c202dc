-- The texts as which errors of type expressions are printed, and the reasons why a type has none.
use Rattle.std.specs.Prelude.{ℕ, List, ◌++◌, codes}
use Rattle.std.specs.Fmt.{decimal}
use Rattle.postcard_schema_text.specs.declared.error.Problem.{Problem}
use Rattle.postcard_schema_text.specs.declared.error.Problem.TheVariants.{TypeExpected, UnknownType, VariantExpected, FieldExpected, LifetimeExpected, AsciiExpected, NameTwice, CommaOrParenthesis, CommaOrBrace, SemicolonOrBracket, BracketExpected, CommaExpected, GreaterExpected, ColonExpected, ArrowExpected, BraceExpected, CountExpected, CountTooLarge, NoBytes, NumberExpected, TooDeep, EndExpected, OutOfMemory}
use Rattle.postcard_schema_text.specs.declared.error.ExpressionError.{ExpressionError}
use Rattle.postcard_schema_text.specs.declared.error.TextError.{TextError}
use Rattle.postcard_schema_text.specs.declared.error.TextError.TheVariants as reasons

-- The text of a problem, in ASCII.
abbrev pub problem_text : Problem → List ℕ
problem_text TypeExpected = codes "expected a type"
problem_text UnknownType = codes "unknown type"
problem_text VariantExpected = codes "expected the name of a variant"
problem_text FieldExpected = codes "expected the name of a field"
problem_text LifetimeExpected = codes "expected the name of a lifetime"
problem_text AsciiExpected = codes "expected a letter of ASCII, a digit or `_`"
problem_text NameTwice = codes "this name was used before"
problem_text CommaOrParenthesis = codes "expected `,` or `)`"
problem_text CommaOrBrace = codes "expected `,` or `}`"
problem_text SemicolonOrBracket = codes "expected `;` or `]`"
problem_text BracketExpected = codes "expected `]`"
problem_text CommaExpected = codes "expected `,`"
problem_text GreaterExpected = codes "expected `>`"
problem_text ColonExpected = codes "expected `:`"
problem_text ArrowExpected = codes "expected `=>`"
problem_text BraceExpected = codes "expected `}`"
problem_text CountExpected = codes "expected the count of an array"
problem_text CountTooLarge = codes "this count is too large"
problem_text NoBytes = codes "elements of this type have no bytes"
problem_text NumberExpected = codes "LE and BE hold u16 to u128 or i16 to i128"
problem_text TooDeep = codes "nested too deeply"
problem_text EndExpected = codes "expected the end of the type"
problem_text OutOfMemory = codes "out of memory"

-- The text of an error: the problem and its place, as in `unknown type at character 5`.
abbrev pub expression_error_text : ExpressionError → List ℕ
expression_error_text e = problem_text e.problem ++ (codes " at character " ++ decimal e.character)

-- The text of the reason why a type has no expression.
abbrev pub text_error_text : TextError → List ℕ
text_error_text reasons.Name = codes "a type expression can't have this name"
text_error_text reasons.NameTwice = codes "two fields or variants have one name"
text_error_text reasons.Empty = codes "a struct without fields or an enum without variants"
text_error_text reasons.NoBytes = codes "elements of this type have no bytes"
text_error_text reasons.NarrowNumber = codes "LE and BE hold u16 to u128 or i16 to i128"
text_error_text reasons.TooDeep = codes "nested too deeply"
text_error_text reasons.OutOfMemory = codes "out of memory"
