-- Calls with `--raw` that read their bytes from a file, which the second operand names.
use Rattle.std.specs.Prelude.{◌≡◌, ◌⊎◌, ⊤, ℕ, List, Option, IfSome}
use Rattle.pcard_call.specs.Calls.{Words}
use Rattle.pcard_files.specs.Call.{AnswersNamed}
use Rattle.pcard_files.specs.Fault.{Tells}
use Rattle.pcard_files.specs.Operands.{NamesInput}
use Rattle.pcard_files.specs.declared.fault.TypeFault.{TypeFault}
use Rattle.pcard_files.specs.declared.fault.TypeFault.TheVariants.{Unreadable, OutOfMemory}
use Rattle.pcard_files.specs.declared.files.ReadError.{ReadError}
use Rattle.pcard_files.specs.declared.files.ReadError.TheVariants as errors

-- If it is known what the open file has left, the file may have just these bytes.
abbrev pub MayHave : {S : Type 0} → (S → Option (List ℕ)) → (List ℕ → Type 0) → S → Type 0
MayHave remaining gives opened = IfSome (remaining opened) gives

-- Opening the file failed by this fault.
abbrev pub IsOpenFault : (List ℕ → Type 0) → List ℕ → TypeFault → Type 0
IsOpenFault lacks file Unreadable = lacks file
IsOpenFault lacks file OutOfMemory = ⊤
IsOpenFault lacks file fault = ⊥

-- The fault of an error of opening.
abbrev pub open_fault : ReadError → TypeFault
open_fault errors.Failed = Unreadable
open_fault errors.OutOfMemory = OutOfMemory

-- The file was opened, and the call answers with what the file has in the place of the input. No input was read. `ended` is the open
-- file after the call.
pub record ReadsFile {S : Type 0} (remaining : S → Option (List ℕ)) (steady_file : S → Type 0) (gives : List ℕ → List ℕ → Type 0) (lacks : List ℕ → Type 0) (syntax : List ℕ) (reads : ℕ) (words : Words) (known left old new told now_told : Option (List ℕ)) (status : ℕ) : Type 0 where
  pub file : List ℕ
  pub opened : S
  pub ended : S
  pub names : NamesInput words file
  pub has : MayHave remaining (gives file) opened
  pub answers : AnswersNamed gives lacks syntax reads (steady_file opened) words (remaining opened) (remaining ended) old new told now_told status
  pub unread : left ≡ known

-- The file wasn't opened, and this was reported. No input was read, and nothing printed.
pub record IsUnopened (lacks : List ℕ → Type 0) (words : Words) (known left old new told now_told : Option (List ℕ)) (status : ℕ) : Type 0 where
  pub file : List ℕ
  pub fault : TypeFault
  pub names : NamesInput words file
  pub refused : IsOpenFault lacks file fault
  pub reported : Tells file fault told now_told status
  pub unread : left ≡ known
  pub unprinted : new ≡ old

-- The words name no file of input, and the call answers as `AnswersNamed` says; or its input is the file that they name, or would be.
abbrev pub AnswersCall : {S : Type 0} → (S → Option (List ℕ)) → (S → Type 0) → (List ℕ → List ℕ → Type 0) → (List ℕ → Type 0) → List ℕ → ℕ → Type 0
    → Words → Option (List ℕ) → Option (List ℕ) → Option (List ℕ) → Option (List ℕ) → Option (List ℕ) → Option (List ℕ) → ℕ → Type 0
AnswersCall remaining steady_file gives lacks syntax reads steady words known left old new told now_told status =
    (((file : List ℕ) → NamesInput words file → ⊥)
    × AnswersNamed gives lacks syntax reads steady words known left old new told now_told status)
    ⊎ (ReadsFile remaining steady_file gives lacks syntax reads words known left old new told now_told status
    ⊎ IsUnopened lacks words known left old new told now_told status)
