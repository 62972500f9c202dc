-- How a call ends follows from how its part ends: a call with TYPE from what is done in its format, and any call from one of two kinds.
use Rattle.std.proofs.Common.{◌≡◌, inr, ℕ, true, false, List, Option, Result, Ok, Err, OnOk}
use Rattle.std.specs.Prelude.{IfErr}
use Rattle.pcard_call.specs.Options.{Given}
use Rattle.pcard_call.specs.declared.verb.Verb.{Verb}
use Rattle.pcard_message.specs.Format.{IsFormat}
use Rattle.pcard_message.specs.declared.failure.Failure.{Failure}
use Rattle.pcard_message.specs.declared.format.Format.{Format}
use Rattle.pcard_calls.specs.Calls.{EndsOther, EndsPlain, EndsTyped, FailsWith, PrintsWith, is_typed}
use Rattle.pcard_calls.specs.Ends.{IsReported}
use Rattle.pcard_calls.specs.Requests.{first_word, second_word}

-- If the options and TYPE name a format, and what is done in it prints or fails as it may, so does the call with TYPE.
pub typed_ends : (reads : ℕ) (steady : Type 0) (verb : Verb) (given : Given) (operands : List (List ℕ)) (known left old mid : Option (List ℕ)) (r : Result (Unit {0}) Failure)
    (format : Format) → IsFormat given (first_word operands) format → OnOk r (PrintsWith format verb given (second_word operands) known left old mid)
    → IfErr r (FailsWith reads steady format verb given (second_word operands) known left old mid)
    → EndsTyped reads steady verb given operands known left old mid r
typed_ends reads steady verb given operands known left old mid (Ok done) format is p q = (format, is, p)
typed_ends reads steady verb given operands known left old mid (Err f) format is p q = inr (format, is, q)

module _ (syntax : List ℕ) (reads : ℕ) (steady : Type 0) (verb : Verb) (given : Given) (operands : List (List ℕ)) (known left old new : Option (List ℕ)) (status : ℕ) where
  typed_plain : (mid : Option (List ℕ)) (r : Result (Unit {0}) Failure) → is_typed verb operands ≡ true → EndsTyped reads steady verb given operands known left old mid r
      → EndsPlain syntax reads steady verb given operands known left old mid r
  typed_plain mid (Ok done) typed e = rw typed e
  typed_plain mid (Err f) typed e = rw typed e

  other_plain : (mid : Option (List ℕ)) (r : Result (Unit {0}) Failure) → is_typed verb operands ≡ false → EndsOther syntax reads steady verb given operands known left old mid r
      → EndsPlain syntax reads steady verb given operands known left old mid r
  other_plain mid (Ok done) other e = rw other e
  other_plain mid (Err f) other e = rw other e

  -- If the call is about messages of a type, and ends and is reported as such a call, it does so as a call.
  pub typed_reported : is_typed verb operands ≡ true → IsReported (EndsTyped reads steady verb given operands known left old) new status
      → IsReported (EndsPlain syntax reads steady verb given operands known left old) new status
  typed_reported typed (outcome, mid, ended, reports) = (outcome, mid, typed_plain mid outcome typed ended, reports)

  pub other_reported : is_typed verb operands ≡ false → IsReported (EndsOther syntax reads steady verb given operands known left old) new status
      → IsReported (EndsPlain syntax reads steady verb given operands known left old) new status
  other_reported other (outcome, mid, ended, reports) = (outcome, mid, other_plain mid outcome other ended, reports)
