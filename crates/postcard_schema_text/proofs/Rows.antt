-- Lemmas on what stands in a row, with a sign between two of them.
use Rattle.std.proofs.Common.{◌≡◌, ℕ, ◌<◌, List, [], ◌∷◌, ◌++◌, length, refl, sym, ap, ◌∙◌, arith, ◌⊎◌, inl, inr}
use Rattle.std.proofs.lemmas.Grind.{common_steps}
use Rattle.std.proofs.lemmas.List.{append_assoc}
use Rattle.postcard_schema_text.specs.Text.{Then, TakesPhrase, IsSign}
use Rattle.postcard_schema_text.specs.Grammar.{Separated}
use Rattle.postcard_schema_text.specs.Phrases.{takes_two}

-- A row, the sign and one more are a row.
pub separated_more : {A : Type 0} (P : A → List ℕ → Type 0) (sign : ℕ) (ss : List A) (x : A) (a b : List ℕ)
    → Separated P sign ss a → Then (IsSign sign) (P x) b → Separated P sign (ss ++ x ∷ []) (a ++ b)
separated_more P sign [] x a b row more = absurd row
separated_more P sign (s ∷ []) x a b row more = (a, b, row, more, refl)
separated_more P sign (s ∷ u ∷ ss) x a b (f, r, first, (g, q, between, rest, e), whole) more = (
  f,
  r ++ b,
  first,
  (g, q ++ b, between, separated_more P sign (u ∷ ss) x q b rest more, ap (λ t. t ++ b) e ∙ append_assoc g q b),
  ap (λ t. t ++ b) whole ∙ append_assoc f r b,
)

-- Taking a row, the sign and one more takes the longer row.
pub row_more : {A : Type 0} (P : A → List ℕ → Type 0) (sign : ℕ) (ss : List A) (x : A) (a b c d : List ℕ)
    → TakesPhrase (Separated P sign ss) a b → TakesPhrase (IsSign sign) b c → TakesPhrase (P x) c d → TakesPhrase (Separated P sign (ss ++ x ∷ [])) a d
row_more P sign ss x a b c d (front, row, e) between more =
    let both = takes_two (IsSign sign) (P x) b c d between more in
    (front ++ both.0, separated_more P sign ss x front both.0 row both.1, e ∙ ap (λ t. front ++ t) both.2 ∙ sym (append_assoc front both.0 d))

-- A row has at least one item.
pub row_filled : {A : Type 0} (P : A → List ℕ → Type 0) (sign : ℕ) (ss : List A) (a : List ℕ) → Separated P sign ss a → 0 < length ss
row_filled P sign [] a row = absurd row
row_filled P sign (s ∷ ss) a row = grind (arith, common_steps)

-- Nothing is taken yet, or a row and the sign after it.
abbrev pub Begun : {A : Type 0} → (A → List ℕ → Type 0) → ℕ → List A → List ℕ → List ℕ → Type 0
Begun P sign ss a b = ((ss ≡ []) × (b ≡ a)) ⊎ TakesPhrase (Then (Separated P sign ss) (IsSign sign)) a b

-- Taking one more after what was begun takes the row with it.
pub begun_more : {A : Type 0} (P : A → List ℕ → Type 0) (sign : ℕ) (ss : List A) (x : A) (a b c : List ℕ)
    → Begun P sign ss a b → TakesPhrase (P x) b c → TakesPhrase (Separated P sign (ss ++ x ∷ [])) a c
begun_more P sign ss x a b c (inl none) more = rw (none.0, ← none.1) more
begun_more P sign ss x a b c (inr (front, (f, g, row, between, e), whole)) more =
    row_more P sign ss x a (g ++ b) b c (f, row, whole ∙ ap (λ t. t ++ b) e ∙ append_assoc f g b) (g, between, refl) more
