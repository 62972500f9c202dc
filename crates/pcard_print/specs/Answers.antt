-- The answer to the bytes of a message or a frame: a value, or why there is none.
use Rattle.std.specs.Prelude.{ℕ, List, Option, option_map}
use Rattle.std.specs.Borrow.{Bor}
use Rattle.postcard_schema.specs.Paths.{path_text}
use Rattle.postcard_value.specs.declared.value.Value.{Value}
use Rattle.pcard_print.specs.declared.answer.Answer.{Answer as AnswerHere}
use Rattle.pcard_print.specs.declared.answer.Answer.TheVariants as answers
use Rattle.pcard_print.specs.declared.refusal.Reason.{Reason}
use Rattle.pcard_print.specs.declared.refusal.Refusal.{Refusal}

-- Why bytes have no value. `offset` is that of the part that can't be read, or 0 for a frame. `path` is the text of that part's path. The
-- bytes of a frame are shown.
pub record Why : Type 0 where
  pub offset : ℕ
  pub reason : Reason
  pub path : List ℕ
  pub shown : Option (List ℕ)

-- Bytes as a plain list, and not a place in memory.
abbrev pub plain : Option (Bor (List ℕ)) → Option (List ℕ)
plain shown = option_map (λ (bytes : Bor (List ℕ)). bytes.now) shown

-- A refusal as a plain value, without places in memory.
abbrev pub why : Refusal → Why
why r = record { offset = r.offset; reason = r.reason; path = path_text r.path.steps.items; shown = plain r.shown }

-- An answer: a value and the bytes of the data after it, or why there is none.
pub data Answer : Type 0 where
  value : Value → List ℕ → Answer
  refused : Why → Answer

abbrev pub plain_answer : AnswerHere → Answer
plain_answer (answers.Value v rest) = value v rest.now
plain_answer (answers.Refused r) = refused (why r)
