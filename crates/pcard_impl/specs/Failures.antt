-- The texts as which the failures of `pcard impl` are printed, and their exit status.
use Rattle.std.specs.Prelude.{◌≡◌, ◌⊎◌, ℕ, Option, List, [], ◌∷◌, ◌++◌, codes}
use Rattle.std.specs.Io.KnownBytes.{Appends}
use Rattle.postcard_source.specs.declared.error.FileProblem.{FileProblem}
use Rattle.postcard_source.specs.declared.error.FileProblem.TheVariants.{Expression}
use Rattle.postcard_schema_text.specs.declared.error.Problem.TheVariants.{OutOfMemory}
use Rattle.pcard_impl.specs.Printed.{impl_error_text}
use Rattle.pcard_impl.specs.declared.error.ImplProblem.{ImplProblem}
use Rattle.pcard_impl.specs.declared.error.ImplProblem.TheVariants as problems
use Rattle.pcard_impl.specs.declared.command.ImplFailure.{ImplFailure}
use Rattle.pcard_impl.specs.declared.command.ImplFailure.TheVariants.{NoHome, NoText, Wrong}

-- The text of a failure of `pcard impl`.
abbrev pub impl_failure_text : ImplFailure → List ℕ
impl_failure_text NoHome = codes "write the file as CRATE/src/MODULE.rt"
impl_failure_text NoText = codes "the file is not UTF-8"
impl_failure_text (Wrong error) = impl_error_text error

-- The exit status of a failure: 1 for out of memory, and else 2.
abbrev pub file_problem_status : FileProblem → ℕ
file_problem_status (Expression OutOfMemory) = 1
file_problem_status problem = 2

abbrev pub impl_problem_status : ImplProblem → ℕ
impl_problem_status (problems.File problem) = file_problem_status problem
impl_problem_status problem = 2

abbrev pub impl_failure_status : ImplFailure → ℕ
impl_failure_status (Wrong error) = impl_problem_status error.problem
impl_failure_status failure = 2

-- The failure is reported: the line with the path of the file and the failure is printed and the status is the failure's, or else the
-- status is 3.
abbrev pub Tells : List ℕ → ImplFailure → Option (List ℕ) → Option (List ℕ) → ℕ → Type 0
Tells path failure old new status =
    (status ≡ 3) ⊎ ((status ≡ impl_failure_status failure) × Appends old new (codes "pcard: " ++ (path ++ (codes ": " ++ (impl_failure_text failure ++ 10 ∷ [])))))

-- A failure is reported so, or the status is 3.
abbrev pub TellsPath : List ℕ → Option (List ℕ) → Option (List ℕ) → ℕ → Type 0
TellsPath path old new status = (status ≡ 3) ⊎ ((failure : ImplFailure) × Tells path failure old new status)
