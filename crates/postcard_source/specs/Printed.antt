-- The printed texts of errors of files of declarations.
use Rattle.std.specs.Prelude.{◌≡◌, ◌⊎◌, ℕ, Bool, true, false, not, List, ◌++◌, codes}
use Rattle.std.specs.Fmt.{decimal}
use Rattle.postcard_schema_text.specs.declared.error.Problem.{Problem}
use Rattle.postcard_schema_text.specs.declared.error.Problem.TheVariants.{OutOfMemory}
use Rattle.postcard_schema_text.specs.Printed.{problem_text}
use Rattle.postcard_source.specs.declared.error.FileProblem.{FileProblem}
use Rattle.postcard_source.specs.declared.error.FileProblem.TheVariants.{CommentOpen, LiteralOpen, AsciiExpected, BracketOpen, NotOpen, ItemOpen, NameExpected, DeclaredTwice, NotDeclared, Generic, Recursive, BodyExpected, BraceExpected, EqualsExpected, SemicolonExpected, TooLong, Parameter}
use Rattle.postcard_source.specs.declared.error.FileProblem.TheVariants as problems
use Rattle.postcard_source.specs.declared.error.FileError.{FileError}

-- The text of a problem, in ASCII.
abbrev pub file_problem_text : FileProblem → List ℕ
file_problem_text CommentOpen = codes "this comment isn't closed"
file_problem_text LiteralOpen = codes "this literal isn't closed"
file_problem_text AsciiExpected = codes "expected a character of ASCII"
file_problem_text BracketOpen = codes "this bracket isn't closed"
file_problem_text NotOpen = codes "no bracket is open here"
file_problem_text ItemOpen = codes "this declaration doesn't end"
file_problem_text NameExpected = codes "expected a name"
file_problem_text DeclaredTwice = codes "this name was declared before"
file_problem_text NotDeclared = codes "no declaration has the name"
file_problem_text Generic = codes "types with parameters aren't supported"
file_problem_text Recursive = codes "this type has itself in it"
file_problem_text BodyExpected = codes "expected `{`, `(` or `;`"
file_problem_text BraceExpected = codes "expected `{`"
file_problem_text EqualsExpected = codes "expected `=`"
file_problem_text SemicolonExpected = codes "expected `;`"
file_problem_text TooLong = codes "this type is too long"
file_problem_text Parameter = codes "a parameter such as a capacity isn't supported"
file_problem_text (problems.Expression problem) = problem_text problem

-- The text of an error: its place and the problem, as in `line 3, column 9: expected a type`.
abbrev pub file_error_text : FileError → List ℕ
file_error_text e = codes "line " ++ decimal e.line ++ codes ", column " ++ decimal e.column ++ codes ": " ++ file_problem_text e.problem

-- Whether the problem is that memory ran out, which says nothing of the type.
abbrev pub is_limit : Problem → Bool
is_limit OutOfMemory = true
is_limit problem = false

-- If a type is refused as an expression with p, the file has this problem: p itself, or `Parameter` unless memory ran out.
abbrev pub IsProblemOf : Problem → FileProblem → Type 0
IsProblemOf p problem = (problem ≡ problems.Expression p) ⊎ ((problem ≡ Parameter) × (is_limit p ≡ false))

-- Whether the problem is one of the type that is asked for: none is declared so, or it has itself in it, is too long, or is no type.
abbrev pub is_of_type : FileProblem → Bool
is_of_type NotDeclared = true
is_of_type Recursive = true
is_of_type TooLong = true
is_of_type Parameter = true
is_of_type (problems.Expression problem) = not (is_limit problem)
is_of_type problem = false
