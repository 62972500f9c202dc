-- A list of numbers is read part by part. The parts are between its commas, the bytes 44.
use Rattle.std.proofs.Common.{arith, ◌≡◌, ℕ, ◌==◌, false, Bor, List, [], ◌∷◌, ◌++◌, Option, Some, None, Result, Ok, Err, refl, sym, ap, subst, ◌∙◌, lit<}
use Rattle.std.proofs.lemmas.Bool.Decides.{nat_tests}
use Rattle.std.proofs.lemmas.List.{append_assoc}
use Rattle.std.proofs.lemmas.List.Elements.{All-from_get_or}
use Rattle.std.proofs.lemmas.List.Splits.{slice_split_first, slice_split_none}
use Rattle.std.proofs.lemmas.Str.Pattern.{IsSplitOnceResult, split_once_first, split_parts}
use Rattle.std.specs.Prelude.{MatchResult}
use Rattle.std.specs.List.{slice_split}
use Rattle.pcard_message.specs.declared.failure.Failure.{Failure}
use Rattle.pcard_message.specs.declared.failure.Failure.TheVariants.{BadValue}
use Rattle.pcard_calls.specs.Value.{ReadsScalar, SayEach, SomeSaysNone}

-- The parts of a text between its commas.
abbrev pub cut : List ℕ → List (List ℕ)
cut word = slice_split (λ b. b == 44) word

-- If `split_once` splits a text at a comma, its parts are the bytes before the comma, and then the parts of those after it.
pub cut-first : (text : List ℕ) (r : Option (Bor (List ℕ) × Bor (List ℕ))) (x : Bor (List ℕ) × Bor (List ℕ)) → IsSplitOnceResult 44 text r
    → r ≡ Some x → cut text ≡ x.0.now ∷ cut x.1.now
cut-first text r x split is =
    let (inside, front, back) = rw is at (split_once_first 44 text r split (lit< tt)) in
    rw (front, back) (slice_split_first (λ b. b == 44) text 0 inside)

-- If `split_once` finds no comma, the text is one part.
pub cut-last : (text : List ℕ) (r : Option (Bor (List ℕ) × Bor (List ℕ))) → IsSplitOnceResult 44 text r
    → r ≡ None → cut text ≡ text ∷ []
cut-last text r split is =
    let none = rw is at (split_parts 44 text r split (lit< tt)) in
    slice_split_none (λ b. b == 44) text (All-from_get_or (λ b. (b == 44) ≡ false) text 0 (λ i inside. grind (arith, nat_tests, none i inside)))

-- If the result is a number, the word is that number.
abbrev SaysResult : {T E : Type 0} → (List ℕ → Result T E → Type 0) → List ℕ → Result T Failure → Type 0
SaysResult parses word (Ok n) = parses word (Ok n)
SaysResult parses word (Err e) = Unit {0}

-- If the result is a number, it is the one that `parse` read from the word. Here the result `p` of `parse` is a variable.
number_of : {T E : Type 0} (parses : List ℕ → Result T E → Type 0) (word : List ℕ) (r : Result T Failure) (n : T) (p : Result T E)
    → parses word p → MatchResult p (λ m. r ≡ Ok m) (λ _. r ≡ Err BadValue) → r ≡ Ok n → parses word (Ok n)
number_of parses word r n (Ok m) says reads is = subst (SaysResult parses word) (sym reads ∙ is) says
number_of parses word r n (Err e) says reads is = cc (sym reads ∙ is)

-- If `ReadsScalar` holds and the result is a number, `parse` reads this number from the word.
pub says-number : {T E : Type 0} (parses : List ℕ → Result T E → Type 0) (word : List ℕ) (r : Result T Failure) (n : T)
    → ReadsScalar parses word r → r ≡ Ok n → parses word (Ok n)
says-number {T} {E} parses word r n reads is = number_of parses word r n reads.0 reads.1 reads.2 is

-- The failure of a result, or g if it is no failure.
abbrev failure_or : {T : Type 0} → Failure → Result T Failure → Failure
failure_or g (Ok n) = g
failure_or g (Err f) = f

-- If the result is an error, it is `BadValue`, and `parse` refused the word. Here the result `p` of `parse` is a variable.
refusal_of : {T E : Type 0} (parses : List ℕ → Result T E → Type 0) (word : List ℕ) (r : Result T Failure) (f : Failure) (p : Result T E)
    → parses word p → MatchResult p (λ m. r ≡ Ok m) (λ _. r ≡ Err BadValue) → r ≡ Err f → (f ≡ BadValue) × ((e : E) × parses word (Err e))
refusal_of parses word r f (Ok m) says reads is = cc (sym reads ∙ is)
refusal_of parses word r f (Err e) says reads is = (ap (failure_or BadValue) (sym is ∙ reads), (e, says))

-- If `ReadsScalar` holds and the result is an error, it is `BadValue`, and `parse` refuses the word.
pub says-none : {T E : Type 0} (parses : List ℕ → Result T E → Type 0) (word : List ℕ) (r : Result T Failure) (f : Failure)
    → ReadsScalar parses word r → r ≡ Err f → (f ≡ BadValue) × ((e : E) × parses word (Err e))
says-none {T} {E} parses word r f reads is = refusal_of parses word r f reads.0 reads.1 reads.2 is

-- One more word with its number extends the words and the numbers.
pub SayEach-more : {T E : Type 0} (parses : List ℕ → Result T E → Type 0) (words : List (List ℕ)) (ns : List T) (word : List ℕ) (n : T)
    → SayEach parses words ns → parses word (Ok n) → SayEach parses (words ++ word ∷ []) (ns ++ n ∷ [])
SayEach-more parses [] [] word n each more = (more, tt)
SayEach-more parses [] (m ∷ ns) word n each more = absurd each
SayEach-more parses (first ∷ words) [] word n each more = absurd each
SayEach-more parses (first ∷ words) (m ∷ ns) word n each more = (each.0, SayEach-more parses words ns word n each.1 more)

-- The parts of the word are `front`, which say the numbers so far, and then those of `rest`.
pub record IsReadBefore {T E : Type 0} (parses : List ℕ → Result T E → Type 0) (word : List ℕ) (ns : List T) (rest : List ℕ) : Type 0 where
  pub front : List (List ℕ)
  pub says : SayEach parses front ns
  pub whole : cut word ≡ front ++ cut rest

-- `IsReadBefore` holds before the first number is read.
pub read-start : {T E : Type 0} (parses : List ℕ → Result T E → Type 0) (word : List ℕ) → IsReadBefore parses word [] word
read-start parses word = record { front = []; says = tt; whole = refl }

-- If the next part is a number, `IsReadBefore` holds with this number added and of the text after the part.
pub read-step : {T E : Type 0} (parses : List ℕ → Result T E → Type 0) (word part rest after : List ℕ) (ns : List T) (n : T)
    → IsReadBefore parses word ns rest → cut rest ≡ part ∷ cut after → parses part (Ok n) → IsReadBefore parses word (ns ++ n ∷ []) after
read-step parses word part rest after ns n before first says = record {
  front = before.front ++ part ∷ [];
  says = SayEach-more parses before.front ns part n before.says says;
  whole = before.whole ∙ ap (λ (back : List (List ℕ)). before.front ++ back) first ∙ sym (append_assoc before.front (part ∷ []) (cut after));
}

-- If the rest is one part and a number, all parts of the word say the numbers so far and this one.
pub read-end : {T E : Type 0} (parses : List ℕ → Result T E → Type 0) (word rest : List ℕ) (ns : List T) (n : T)
    → IsReadBefore parses word ns rest → cut rest ≡ rest ∷ [] → parses rest (Ok n) → SayEach parses (cut word) (ns ++ n ∷ [])
read-end parses word rest ns n before last says =
    rw (before.whole, last) (SayEach-more parses before.front ns rest n before.says says)

-- If the next part is no number, a part of the word is no number.
pub read-refused : {T E : Type 0} (parses : List ℕ → Result T E → Type 0) (word part rest : List ℕ) (back : List (List ℕ)) (ns : List T) (e : E)
    → IsReadBefore parses word ns rest → cut rest ≡ part ∷ back → parses part (Err e) → SomeSaysNone parses (cut word)
read-refused parses word part rest back ns e before first says =
    (before.front, part, back, e, before.whole ∙ ap (λ (parts : List (List ℕ)). before.front ++ parts) first, says)
