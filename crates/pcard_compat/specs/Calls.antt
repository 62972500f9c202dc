-- How a call of `pcard compat` ends: what it prints, and its exit status.
use Rattle.std.specs.Prelude.{◌≡◌, ◌⊎◌, ℕ, List, [], ◌∷◌, ◌++◌, Bool, true, false, codes, Option, Result, Ok, Err, string_bytes}
use Rattle.std.specs.Io.KnownBytes.{Appends}
use Rattle.postcard_schema.specs.declared.schema.Schema.{Schema}
use Rattle.pcard_print.specs.declared.error.PrintError.{PrintError}
use Rattle.pcard_message.specs.Failures.{failure_of_print}
use Rattle.pcard_message.specs.declared.failure.Failure.TheVariants.{Usage}
use Rattle.pcard_calls.specs.Ends.{AnswersFailure}
use Rattle.pcard_files.specs.Fault.{Tells}
use Rattle.pcard_compat.specs.Requests.{Words, IsMisuse, IsRequest, misuse_text}
use Rattle.pcard_compat.specs.Types.{IsNoType, IsTypeOf}
use Rattle.pcard_compat.specs.Outcomes.{FailsToShow, IsOutcome}
use Rattle.pcard_compat.specs.declared.outcome.Outcome.{Outcome}
use Rattle.pcard_compat.specs.declared.request.Misuse.{Misuse}
use Rattle.pcard_compat.specs.declared.request.Options.{Options}
use Rattle.pcard_compat.specs.declared.type_word.NoType.{NoType}
use Rattle.pcard_compat.specs.declared.type_word.NoType.TheVariants.{File, Expression}

-- Invalid arguments are reported by a line that says why, and by the usage. If they can't be reported, the status is 3.
abbrev pub RefusesWords : Misuse → Option (List ℕ) → Option (List ℕ) → Option (List ℕ) → Option (List ℕ) → ℕ → Type 0
RefusesWords misuse old new told now_told status =
    (status ≡ 3) ⊎ (Appends told now_told (codes "pcard: " ++ (misuse_text misuse ++ 10 ∷ [])) × AnswersFailure Usage old new status)

-- The type is reported as wrong: the fault of a file by a line of errors, and an expression by a line of the output.
abbrev pub RefusesType : NoType → Option (List ℕ) → Option (List ℕ) → Option (List ℕ) → Option (List ℕ) → ℕ → Type 0
RefusesType (File file fault) old new told now_told status = (new ≡ old) × Tells file.now fault told now_told status
RefusesType (Expression failure) old new told now_told status = (now_told ≡ told) × AnswersFailure failure old new status

-- The exit status of an answer that is printed.
abbrev pub safe_status : Bool → ℕ
safe_status true = 0
safe_status false = 1

-- The text of the outcome is printed, and the exit status says whether it is safe. Status 3 says that it can't be printed.
abbrev pub PrintsOutcome : Outcome → Option (List ℕ) → Option (List ℕ) → ℕ → Type 0
PrintsOutcome o old new status = (status ≡ 3) ⊎ ((status ≡ safe_status o.is_safe) × Appends old new (string_bytes o.text))

-- The outcome or the line of its failure is printed, with the exit status.
abbrev pub EndsCall : Result Outcome PrintError → Option (List ℕ) → Option (List ℕ) → ℕ → Type 0
EndsCall (Ok outcome) old new status = PrintsOutcome outcome old new status
EndsCall (Err error) old new status = AnswersFailure (failure_of_print error) old new status

-- The arguments are invalid, and are reported so.
pub record IsMisusedCall (words : Words) (old new told now_told : Option (List ℕ)) (status : ℕ) : Type 0 where
  pub misuse : Misuse
  pub is : IsMisuse words misuse
  pub reported : RefusesWords misuse old new told now_told status

-- The argument OLD, or NEW if OLD stands for a type.
abbrev pub IsFirstLeft : (List ℕ → List ℕ → Type 0) → List ℕ → List ℕ → List ℕ → Type 0
IsFirstLeft gives old_word new_word word = (word ≡ old_word) ⊎ (((schema : Schema) × IsTypeOf gives old_word schema) × (word ≡ new_word))

-- If one of the two arguments stands for no type, the first such argument is reported.
pub record IsUntypedCall (gives : List ℕ → List ℕ → Type 0) (lacks : List ℕ → Type 0) (words : Words) (old new told now_told : Option (List ℕ)) (status : ℕ) : Type 0 where
  pub options : Options
  pub old_word : List ℕ
  pub new_word : List ℕ
  pub word : List ℕ
  pub why : NoType
  pub request : IsRequest words options old_word new_word
  pub first : IsFirstLeft gives old_word new_word word
  pub no_type : IsNoType gives lacks word why
  pub reported : RefusesType why old new told now_told status

-- A possible outcome of comparing two types by the options.
abbrev pub FoundBy : Options → Schema → Schema → Result Outcome PrintError → Type 0
FoundBy options old new (Ok outcome) = IsOutcome options old new (string_bytes outcome.text) outcome.is_safe
FoundBy options old new (Err error) = FailsToShow options.json error

-- The outcome of comparing the types of the arguments is printed, or its failure.
pub record IsComparedCall (gives : List ℕ → List ℕ → Type 0) (words : Words) (old new told now_told : Option (List ℕ)) (status : ℕ) : Type 0 where
  pub options : Options
  pub old_word : List ℕ
  pub new_word : List ℕ
  pub old_type : Schema
  pub new_type : Schema
  pub result : Result Outcome PrintError
  pub request : IsRequest words options old_word new_word
  pub is_old : IsTypeOf gives old_word old_type
  pub is_new : IsTypeOf gives new_word new_type
  pub found : FoundBy options old_type new_type result
  pub ended : EndsCall result old new status
  pub silent : now_told ≡ told

-- A call with these arguments ended in one of these ways.
abbrev pub Answers : (List ℕ → List ℕ → Type 0) → (List ℕ → Type 0) → Words → Option (List ℕ) → Option (List ℕ) → Option (List ℕ) → Option (List ℕ) → ℕ → Type 0
Answers gives lacks words old new told now_told status =
    IsMisusedCall words old new told now_told status
    ⊎ (IsUntypedCall gives lacks words old new told now_told status
    ⊎ IsComparedCall gives words old new told now_told status)
