-- Which tokens have a bracket that is passed over, and which are within one.
use Rattle.std.proofs.Common.{◌≡◌, ℕ, ◌+◌, ◌<◌, Bool, true, false, Some, List, Decides, sym, subst, ◌∙◌, true≢false, arith, inl, inr}
use Rattle.std.specs.Prelude.{slice_get, codes}
use Rattle.std.proofs.lemmas.Option.{same_Some}
use Rattle.postcard_source.specs.declared.token.Token.{Token}
use Rattle.postcard_source.specs.Tokens.{IsAt}
use Rattle.postcard_source.specs.Kept.{IsAttribute, IsLimit, IsScope, HasBracket}
use Rattle.postcard_source.proofs.Decided.{says_one}
use borrow.Author.Count.{below_more}

-- If `(` is at index i, and `crate`, `self` or `super` follows but not `in`, a test for `)` after it decides whether it is a scope.
pub limits : (tokens : List Token) (i inner after : ℕ) (b : Bool) → IsAt (codes "(") tokens i → inner ≡ i + 1 → (IsAt (codes "in") tokens inner → ⊥) → IsLimit tokens inner → after ≡ inner + 1
    → Decides b (IsAt (codes ")") tokens after) → Decides b (IsScope tokens i)
limits tokens i inner after b begins is not_in limit is_after d =
    let last : after ≡ i + 2 = omega arith in (
      λ e. (begins, inr (subst (IsLimit tokens) is limit, subst (IsAt (codes ")") tokens) last (d.0 e))),
      λ (_, rest). elim rest as (λ _. b ≡ true) [
        | inl is_in ↦ absurd (not_in (subst (IsAt (codes "in") tokens) (sym is) is_in))
        | inr ended ↦ d.1 (subst (IsAt (codes ")") tokens) (sym last) ended.1)
      ],
    )

-- If neither `in` nor `crate`, `self` or `super` is after index i, no scope begins at i.
pub no_limit : (tokens : List Token) (i inner : ℕ) → inner ≡ i + 1 → (IsAt (codes "in") tokens inner → ⊥) → (IsLimit tokens inner → ⊥) → Decides false (IsScope tokens i)
no_limit tokens i inner is not_in none = (
  λ e. absurd (true≢false (sym e)),
  λ (_, rest). absurd (elim rest as (λ _. ⊥) [
    | inl is_in ↦ not_in (subst (IsAt (codes "in") tokens) (sym is) is_in)
    | inr ended ↦ none (subst (IsLimit tokens) (sym is) ended.0)
  ]),
)

-- If `#` is at index i, and no bracket of an attribute follows it, i has no bracket.
pub no_attribute : (tokens : List Token) (i after : ℕ) → IsAt (codes "#") tokens i → after ≡ i + 1 → ((b : ℕ) → IsAttribute tokens after b → ⊥) → (b : ℕ) → HasBracket tokens i b → ⊥
no_attribute tokens i after hash is none b (inl (_, attribute)) = none b (subst (λ k. IsAttribute tokens k b) (sym is) attribute)
no_attribute tokens i after hash is none b (inr (is_pub, _, _)) = let e : codes "#" ≡ codes "pub" = says_one tokens i _ _ hash is_pub in cc

-- If no `#` is at index i, and no scope follows it, i has no bracket.
pub no_scope : (tokens : List Token) (i after : ℕ) → (IsAt (codes "#") tokens i → ⊥) → after ≡ i + 1 → (IsScope tokens after → ⊥) → (b : ℕ) → HasBracket tokens i b → ⊥
no_scope tokens i after no_hash is none b (inl (hash, _)) = no_hash hash
no_scope tokens i after no_hash is none b (inr (_, scope, _)) = none (subst (IsScope tokens) (sym is) scope)

-- If the tokens between i and `last` are deeper than `depth`, and the one at `last` is too, those between i and `last + 1` are.
pub deeper_more : (tokens : List Token) (i last depth : ℕ) (next : Token) → slice_get tokens last ≡ Some next → depth < next.depth
    → ((k : ℕ) (t : Token) → i < k → k < last → slice_get tokens k ≡ Some t → depth < t.depth)
    → (k : ℕ) (t : Token) → i < k → k < last + 1 → slice_get tokens k ≡ Some t → depth < t.depth
deeper_more tokens i last depth next is_next deep before k t low high is_t =
    below_more (λ n. (t : Token) → i < n → slice_get tokens n ≡ Some t → depth < t.depth) last
    (λ n less u start is_u. before n u start less is_u)
    (λ u _ is_u. subst (λ (x : Token). depth < x.depth) (same_Some next u (sym is_next ∙ is_u)) deep) k high t low is_t
