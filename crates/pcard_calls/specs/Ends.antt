-- How a call ends: the line of its failure, and its exit status.
use Rattle.std.specs.Prelude.{◌≡◌, ◌⊎◌, ℕ, List, [], ◌∷◌, ◌++◌, Option, Result, Ok, Err}
use Rattle.std.specs.Io.KnownBytes.{Appends}
use Rattle.pcard_message.specs.Failures.{failure_status, failure_text}
use Rattle.pcard_message.specs.declared.failure.Failure.{Failure}
use Rattle.pcard_message.specs.declared.failure.Failure.TheVariants.{Refused}
use Rattle.pcard_calls.specs.Calls.{Ends}

-- The exit status of a call whose output can be written.
abbrev pub exit_status : Result (Unit {0}) Failure → ℕ
exit_status (Ok done) = 0
exit_status (Err failure) = failure_status failure

-- The line of a failure. That of a refusal is printed before.
abbrev pub failure_line : Failure → List ℕ
failure_line Refused = []
failure_line failure = failure_text failure ++ 10 ∷ []

-- The line that is printed last: that of the failure if the call failed, and else nothing.
abbrev pub last_line : Result (Unit {0}) Failure → List ℕ
last_line (Ok done) = []
last_line (Err failure) = failure_line failure

-- The outcome of a call is reported: the status is that of the outcome, and if the call failed, the line of its failure is printed.
-- Or the status is 3, whatever the outcome is.
abbrev pub Reports : Result (Unit {0}) Failure → Option (List ℕ) → Option (List ℕ) → ℕ → Type 0
Reports outcome old new status = (status ≡ 3) ⊎ ((status ≡ exit_status outcome) × Appends old new (last_line outcome))

-- The failure is reported.
abbrev pub AnswersFailure : Failure → Option (List ℕ) → Option (List ℕ) → ℕ → Type 0
AnswersFailure failure old new status = Reports (Err failure) old new status

-- Some outcome that `Comes` allows was reported by this status.
abbrev pub IsReported : (Option (List ℕ) → Result (Unit {0}) Failure → Type 0) → Option (List ℕ) → ℕ → Type 0
IsReported Comes new status =
    (outcome : Result (Unit {0}) Failure) × (mid : Option (List ℕ)) × Comes mid outcome × Reports outcome mid new status

-- A call of these words ended in some way, which was then reported by its status.
abbrev pub Answers : List ℕ → ℕ → Type 0 → List (List ℕ) → Option (List ℕ) → Option (List ℕ) → Option (List ℕ) → Option (List ℕ) → ℕ → Type 0
Answers syntax reads steady words known left old new status = IsReported (Ends syntax reads steady words known left old) new status
