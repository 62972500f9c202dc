-- The texts as which errors of writing impls are printed.
use Rattle.std.specs.Prelude.{ℕ, List, [], ◌∷◌, ◌++◌, codes}
use Rattle.std.specs.Fmt.{decimal}
use Rattle.postcard_source.specs.Printed.{file_problem_text}
use Rattle.pcard_impl.specs.declared.error.ImplProblem.{ImplProblem}
use Rattle.pcard_impl.specs.declared.error.ImplProblem.TheVariants.{MarkOpen, MarkAlone, MarkLost, ColonExpected, NoVariant, TooManyFields, Where, ConstParameter, DefaultParameter, LifetimeBound, CommaExpected, NotDrop, SerdeDerive, SerdeAttribute, GhostField, Comment, Recursive, NotServed, NotRead, NoReference, HoldsMemory}
use Rattle.pcard_impl.specs.declared.error.ImplProblem.TheVariants as problems
use Rattle.pcard_impl.specs.declared.error.ImplError.{ImplError}

-- The text of a problem, in ASCII.
abbrev pub impl_problem_text : ImplProblem → List ℕ
impl_problem_text MarkOpen = codes "the second mark doesn't follow"
impl_problem_text MarkAlone = codes "the first mark isn't before this one"
impl_problem_text MarkLost = codes "the marks wouldn't be found again"
impl_problem_text ColonExpected = codes "expected `:`"
impl_problem_text NoVariant = codes "an enum without variants has no values"
impl_problem_text TooManyFields = codes "more than 60 fields"
impl_problem_text Where = codes "write each bound at its parameter, without `where`"
impl_problem_text ConstParameter = codes "a parameter can't be a number"
impl_problem_text DefaultParameter = codes "a parameter can't have a default"
impl_problem_text LifetimeBound = codes "a bound can't have a lifetime"
impl_problem_text CommaExpected = codes "expected `,`"
impl_problem_text NotDrop = codes "derive `Drop`, or `Copy`"
impl_problem_text SerdeDerive = codes "derive neither `Serialize` nor `Deserialize`"
impl_problem_text SerdeAttribute = codes "an attribute of serde may change what is written"
impl_problem_text GhostField = codes "a type with a rule of its own"
impl_problem_text Comment = codes "a comment inside a type"
impl_problem_text Recursive = codes "this type has itself in it"
impl_problem_text NotServed = codes "values of this type aren't written and read"
impl_problem_text NotRead = codes "it borrows for no lifetime of its type"
impl_problem_text NoReference = codes "only `&str` and `&[u8]` are read"
impl_problem_text HoldsMemory = codes "a type with a parameter and a lifetime holds memory here"
impl_problem_text (problems.File problem) = file_problem_text problem

-- What is wrong, in quotes, and `: `; or nothing, if it isn't named.
abbrev pub what_text : List ℕ → List ℕ
what_text [] = []
what_text (first ∷ letters) = codes "`" ++ ((first ∷ letters) ++ codes "`: ")

-- The text of an error: its place, what is wrong, and why.
abbrev pub impl_error_text : ImplError → List ℕ
impl_error_text e = codes "line " ++ decimal e.line ++ codes ", column " ++ decimal e.column ++ codes ": " ++ what_text e.what.now ++ impl_problem_text e.problem
