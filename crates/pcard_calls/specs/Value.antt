-- The values of the word VALUE. `parses` is the contract of a type's `parse`: a number is std's decimal numerals in
-- its range, a bool `true` or `false`, and a character a word of just that character.
use Rattle.std.specs.Prelude.{◌≡◌, ℕ, ◌==◌, if◌then◌else◌, List, [], ◌∷◌, ◌++◌, ◌⊎◌, length, Result, Ok, Err, MatchResult}
use Rattle.std.specs.List.{slice_split}
use Rattle.postcard_wire.specs.declared.error.Error.TheVariants.{OutOfMemory}
use Rattle.pcard_message.specs.declared.failure.Failure.{Failure}
use Rattle.pcard_message.specs.declared.failure.Failure.TheVariants.{BadValue, Library}

-- The result is the value that `parse` reads from the word, or `BadValue` if it reads none.
abbrev pub ReadsScalar : {T E : Type 0} → (List ℕ → Result T E → Type 0) → List ℕ → Result T Failure → Type 0
ReadsScalar {T = T} {E = E} parses word r = (p : Result T E) × parses word p × MatchResult p (λ n. r ≡ Ok n) (λ _. r ≡ Err BadValue)

-- The parts of a word between its commas. The empty word has none.
abbrev pub parts : List ℕ → List (List ℕ)
parts word = if length word == 0 then [] else slice_split (λ b. b == 44) word

-- The words are these numbers, one each.
abbrev pub SayEach : {T E : Type 0} → (List ℕ → Result T E → Type 0) → List (List ℕ) → List T → Type 0
SayEach parses [] [] = Unit {0}
SayEach parses [] (n ∷ ns) = ⊥
SayEach parses (word ∷ words) [] = ⊥
SayEach parses (word ∷ words) (n ∷ ns) = parses word (Ok n) × SayEach parses words ns

-- One of the words is no number.
abbrev pub SomeSaysNone : {T E : Type 0} → (List ℕ → Result T E → Type 0) → List (List ℕ) → Type 0
SomeSaysNone {E = E} parses words = (front : List (List ℕ)) × (bad : List ℕ) × (back : List (List ℕ)) × (e : E) × (words ≡ front ++ bad ∷ back) × parses bad (Err e)

-- The errors of a list: `BadValue` if a part of the word is no number, or `OutOfMemory`.
abbrev pub RefusesList : {T E : Type 0} → (List ℕ → Result T E → Type 0) → List ℕ → Failure → Type 0
RefusesList parses word e = ((e ≡ BadValue) × SomeSaysNone parses (parts word)) ⊎ (e ≡ Library OutOfMemory)
