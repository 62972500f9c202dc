-- Calls of words in which TYPE may be the name of a type in a file.
use Rattle.std.specs.Prelude.{◌≡◌, ◌⊎◌, ℕ, List, slice_get, slice_set, Option, Some}
use Rattle.pcard_call.specs.Calls.{Words}
use Rattle.pcard_calls.specs.{Answers, AnswersFailure, IsNoCall, PrintsCall}
use Rattle.pcard_message.specs.declared.failure.Failure.TheVariants.{Usage}
use Rattle.pcard_files.specs.Fault.{Tells}
use Rattle.pcard_files.specs.Operands.{IsTypeAt}
use Rattle.pcard_files.specs.TypeName.{IsNameWord, HasExpression, IsFaultOf}
use Rattle.pcard_files.specs.declared.fault.TypeFault.{TypeFault}

-- TYPE is the word at index i, and names a type in a file.
abbrev pub NamesType : Words → ℕ → List ℕ → Option (List ℕ) → Type 0
NamesType words i file name = IsTypeAt words i × ((word : List ℕ) × (slice_get words i ≡ Some word) × IsNameWord word file name)

-- TYPE names a type in a file, and `said` are the words with an expression of it in the place of the name.
pub record IsReplaced (gives : List ℕ → List ℕ → Type 0) (words said : Words) : Type 0 where
  pub index : ℕ
  pub file : List ℕ
  pub name : Option (List ℕ)
  pub text : List ℕ
  pub names : NamesType words index file name
  pub expression : HasExpression gives file name text
  pub are : said ≡ slice_set words index text

-- The words that are run for the words of a call: the same, if TYPE names no type in a file.
abbrev pub IsSaid : (List ℕ → List ℕ → Type 0) → Words → Words → Type 0
IsSaid gives words said =
    (((i : ℕ) (file : List ℕ) (name : Option (List ℕ)) → NamesType words i file name → ⊥) × (said ≡ words))
    ⊎ IsReplaced gives words said

-- The call does what that of the words `said` does. Of words that are a call it prints no error.
pub record DoesCallOf (said : Words) (syntax : List ℕ) (reads : ℕ) (steady : Type 0) (known left old new told now_told : Option (List ℕ)) (status : ℕ) : Type 0 where
  pub answers : Answers syntax reads steady said known left old new status
  pub usage : IsNoCall said → AnswersFailure Usage old new status
  pub printed : status ≡ 0 → PrintsCall syntax said known left old new
  pub silent : (IsNoCall said → ⊥) → now_told ≡ told

-- TYPE names a type in a file, which stands for none, and this was reported. No input was read, and nothing printed.
pub record IsRefusedCall (gives : List ℕ → List ℕ → Type 0) (lacks : List ℕ → Type 0) (words : Words) (known left old new told now_told : Option (List ℕ)) (status : ℕ) : Type 0 where
  pub index : ℕ
  pub file : List ℕ
  pub name : Option (List ℕ)
  pub fault : TypeFault
  pub names : NamesType words index file name
  pub refused : IsFaultOf gives lacks file name fault
  pub reported : Tells file fault told now_told status
  pub unread : left ≡ known
  pub unprinted : new ≡ old

-- The call does what that of the words does that are run for these, or TYPE names no type.
abbrev pub AnswersNamed : (List ℕ → List ℕ → Type 0) → (List ℕ → Type 0) → List ℕ → ℕ → Type 0 → Words
    → Option (List ℕ) → Option (List ℕ) → Option (List ℕ) → Option (List ℕ) → Option (List ℕ) → Option (List ℕ) → ℕ → Type 0
AnswersNamed gives lacks syntax reads steady words known left old new told now_told status =
    ((said : Words) × IsSaid gives words said × DoesCallOf said syntax reads steady known left old new told now_told status)
    ⊎ IsRefusedCall gives lacks words known left old new told now_told status
