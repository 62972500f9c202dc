-- Whether a token is part of a discriminant. The search goes back from the token to the first `=` or to the first end of a discriminant.
use Rattle.std.proofs.Common.{◌≡◌, ℕ, ◌+◌, ◌<◌, ◌≤◌, false, List, Decides, sym, subst, true≢false, arith, ◌⊎◌, inl, inr}
use Rattle.std.specs.Prelude.{codes}
use Rattle.postcard_source.specs.declared.token.Token.{Token}
use Rattle.postcard_source.specs.Words.{EndsDiscriminant, IsDiscriminant, IsSign}

-- If a ≤ b, then b is a, or a < b.
first_or_later : (a b : ℕ) → a ≤ b → (b ≡ a) ⊎ (a < b)
first_or_later a b h = grind (arith, h)

-- Of two numbers, a ≤ b or b < a.
before_or_after : (a b : ℕ) → (a ≤ b) ⊎ (b < a)
before_or_after a b = grind (arith)

-- If P holds at `first`, and from the next index up to `last`, it holds from `first` up to `last`.
pub from_more : (P : ℕ → Type 0) (first index last : ℕ) → first + 1 ≡ index → P first → ((k : ℕ) → index ≤ k → k ≤ last → P k) → (k : ℕ) → first ≤ k → k ≤ last → P k
from_more P first index last next here later k low high = elim (first_or_later first k low) as (λ _. P k) [
  | inl same ↦ subst P (sym same) here
  | inr after ↦ later k (omega arith) high
]

-- If a discriminant ends at `first`, and no `=` that begins one follows up to `last`, the token at `last` is of no discriminant.
pub none_goes_on : (tokens : List Token) (first index last : ℕ) → first + 1 ≡ index → first ≤ last → EndsDiscriminant tokens first
    → ((k : ℕ) → index ≤ k → k ≤ last → IsSign 1 (codes "=") tokens k → ⊥) → Decides false (IsDiscriminant tokens last)
none_goes_on tokens first index last next within ends none = (
  λ e. absurd (true≢false (sym e)),
  λ (j, low, begins, goes_on). absurd (elim (before_or_after j first) as (λ _. ⊥) [
    | inl before ↦ goes_on first before within ends
    | inr after ↦ none j (omega arith) low begins
  ]),
)

-- If no `=` that begins a discriminant is from index 0 up to `last`, the token at `last` is of no discriminant.
pub none_begins : (tokens : List Token) (first last : ℕ) → first ≡ 0 → ((k : ℕ) → first ≤ k → k ≤ last → IsSign 1 (codes "=") tokens k → ⊥) → Decides false (IsDiscriminant tokens last)
none_begins tokens first last start none = (
  λ e. absurd (true≢false (sym e)),
  λ (j, low, begins, goes_on). absurd (none j (omega arith) low begins),
)
