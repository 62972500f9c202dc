-- Which words are a request, and why others are none.
use Rattle.std.specs.Prelude.{◌≡◌, ◌||◌, ℕ, nat_eq, Bool, true, false, if◌then◌else◌, List, [], ◌∷◌, ◌++◌, codes}
use Rattle.std.specs.List.{list_any}
use lib.Pointwise.{pointwise}
use Rattle.pcard_call.specs.Calls.{IsCall, IsMisuse}
use Rattle.pcard_call.specs.Options.{Given, is_empty}
use Rattle.pcard_call.specs.Texts.{misuse_text}
use Rattle.pcard_call.specs.declared.verb.Verb.{Verb}
use Rattle.pcard_call.specs.declared.verb.Verb.TheVariants as verbs
use Rattle.pcard_calls.specs.Names.{IsWordOf}
use Rattle.pcard_calls.specs.declared.names.TypeWord.{TypeWord}
use Rattle.pcard_calls.specs.declared.names.TypeWord.TheVariants.{Expression}
use Rattle.pcard_calls.specs.declared.request.NoCall.{NoCall}
use Rattle.pcard_calls.specs.declared.request.NoCall.TheVariants.{Misuse, UnknownType}

-- The first of some words, or the empty word.
abbrev pub first_word : List (List ℕ) → List ℕ
first_word [] = []
first_word (word ∷ words) = word

-- The second of some words, or the empty word.
abbrev pub second_word : List (List ℕ) → List ℕ
second_word [] = []
second_word (word ∷ words) = first_word words

-- Whether TYPE may be a name: of `enc` and `dec` without options.
abbrev pub takes_name : Verb → Given → Bool
takes_name verbs.Encode given = is_empty given
takes_name verbs.Decode given = is_empty given
takes_name verb given = false

-- The word TYPE of a call stands for this.
pub record IsTypeWord (verb : Verb) (given : Given) (word : List ℕ) (kind : TypeWord) : Type 0 where
  pub named : takes_name verb given ≡ true → IsWordOf word kind
  pub other : takes_name verb given ≡ false → kind ≡ Expression

-- The words are this call, and its TYPE stands for this.
pub record IsRequest (words : List (List ℕ)) (verb : Verb) (given : Given) (operands : List (List ℕ)) (kind : TypeWord) : Type 0 where
  pub call : IsCall words verb given operands
  pub type_word : IsTypeWord verb given (first_word operands) kind

-- The words are no request.
abbrev pub IsNoCall : List (List ℕ) → Type 0
IsNoCall words = (verb : Verb) (given : Given) (operands : List (List ℕ)) (kind : TypeWord) → IsRequest words verb given operands kind → ⊥

-- The words are no request for this reason.
abbrev pub IsWhyNoCall : List (List ℕ) → NoCall → Type 0
IsWhyNoCall words (Misuse misuse) = IsMisuse words misuse
IsWhyNoCall words (UnknownType word) =
    (verb : Verb) × (given : Given) × (operands : List (List ℕ)) × IsCall words verb given operands × (word.now ≡ first_word operands)

-- The name that Rust gives the strings.
abbrev pub is_string : List ℕ → Bool
is_string word = pointwise nat_eq word (codes "String")

-- The word has a colon (58), as one that names a type in a file.
abbrev pub has_colon : List ℕ → Bool
has_colon word = list_any (λ b. nat_eq b 58) word

-- The word is a type only within an expression, as in `(usize)`.
abbrev pub is_bare : List ℕ → Bool
is_bare word = pointwise nat_eq word (codes "usize") || (pointwise nat_eq word (codes "isize") || pointwise nat_eq word (codes "bytes"))

-- What would do in the place of a word that is no type.
abbrev pub hint_text : List ℕ → List ℕ
hint_text word =
    if is_string word then codes "; a string is str" else
    if has_colon word then codes "; a type in a file is @" ++ word else
    if is_bare word then codes "; write (" ++ (word ++ codes ")") else codes "; pcard types prints how a type is written"

-- The line that says why words are no call.
abbrev pub no_call_text : NoCall → List ℕ
no_call_text (Misuse misuse) = misuse_text misuse
no_call_text (UnknownType word) = codes "unknown type " ++ (word.now ++ hint_text word.now)
