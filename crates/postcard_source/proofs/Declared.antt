-- If the list has the declarations before an item, reading the item makes it the list of those up to and with the item.
use Rattle.std.proofs.Common.{◌≡◌, ℕ, ◌+◌, ◌<◌, List, [], ◌∷◌, ◌++◌, sym, subst, ◌∙◌, arith, inl, inr, ◌⊎◌}
use Rattle.std.specs.Prelude.{All, Contains}
use Rattle.std.proofs.lemmas.List.Elements.{All-contains, Contains-push, Contains-push_cases, Contains-append_left}
use Rattle.postcard_source.specs.declared.token.Token.{Token}
use Rattle.postcard_source.specs.declared.declaration.Declaration.{Declaration}
use Rattle.postcard_source.specs.Tokens.{Says}
use Rattle.postcard_source.specs.Items.{Declares, ReadsItem, NamesDiffer, AreDeclaredBefore}
use borrow.Author.Count.{below_more}

-- If the names of the declarations differ, and none is the name of d, they still differ once d is added.
differ_more : (old : List Declaration) (d : Declaration) → NamesDiffer old → All (λ e. Says d.name.text.now e.name → ⊥) old → NamesDiffer (old ++ d ∷ [])
differ_more old d differ is_new a b has_a has_b says =
    elim (Contains-push_cases old d a has_a) as (λ _. a ≡ b) [
      | inl in_a ↦ elim (Contains-push_cases old d b has_b) as (λ _. a ≡ b) [
        | inl in_b ↦ differ a b in_a in_b says
        | inr same ↦ absurd (All-contains (λ e. Says d.name.text.now e.name → ⊥) old a is_new in_a (subst (λ x. Says x.name.text.now a.name) (sym same) (sym says)))
      ]
      | inr same ↦ elim (Contains-push_cases old d b has_b) as (λ _. a ≡ b) [
        | inl in_b ↦ absurd (All-contains (λ e. Says d.name.text.now e.name → ⊥) old b is_new in_b (subst (λ x. Says x.name.text.now b.name) (sym same) says))
        | inr other ↦ sym same ∙ other
      ]
    ]

-- The item at index n declares one of the known declarations, or nothing.
abbrev HasItem : List Token → List Declaration → ℕ → Type 0
HasItem tokens known n = ((d : Declaration) × Contains known d × Declares tokens n d) ⊎ ((d : Declaration) → Declares tokens n d → ⊥)

-- Adding a declaration to the list keeps `HasItem`.
has_more : (tokens : List Token) (old : List Declaration) (d : Declaration) (n : ℕ) → HasItem tokens old n → HasItem tokens (old ++ d ∷ []) n
has_more tokens old d n (inl (e, has, is)) = inl (e, Contains-append_left old (d ∷ []) e has, is)
has_more tokens old d n (inr nothing) = inr nothing

-- Reading the item at index n turns the declarations before index n into those before index n + 1.
pub declared_more : (tokens : List Token) (n : ℕ) (old new : List Declaration) → AreDeclaredBefore tokens n old → ReadsItem tokens n old new → AreDeclaredBefore tokens (n + 1) new
declared_more tokens n old new h (inl (nothing, same)) = subst (AreDeclaredBefore tokens (n + 1)) (sym same) (record {
  declared = λ d has. let (i, low, is) = h.declared d has in (i, omega arith, is);
  each = below_more (HasItem tokens old) n h.each (inr nothing);
  differ = h.differ;
})
declared_more tokens n old new h (inr (d, is, is_new, same)) = subst (AreDeclaredBefore tokens (n + 1)) (sym same) (record {
  declared = λ e has. elim (Contains-push_cases old d e has) as (λ _. (i : ℕ) × (i < n + 1) × Declares tokens i e) [
    | inl earlier ↦ let (i, low, is_e) = h.declared e earlier in (i, omega arith, is_e)
    | inr same_e ↦ (n, omega arith, subst (Declares tokens n) same_e is)
  ];
  each = below_more (HasItem tokens (old ++ d ∷ [])) n (λ k low. has_more tokens old d k (h.each k low)) (inl (d, Contains-push old d, is));
  differ = differ_more old d h.differ is_new;
})
