-- A declaration that stands for a text isn't recursive: what it mentions comes to an end. A chain that returns to one of its
-- declarations makes its first one recursive.
use Rattle.std.proofs.Common.{◌≡◌, ℕ, ◌+◌, ◌<◌, ◌≤◌, List, [], ◌∷◌, ◌++◌, refl, sym, ap, subst, ◌∙◌, arith, inl, inr, ◌⊎◌}
use Rattle.std.specs.Prelude.{Contains}
use Rattle.std.proofs.lemmas.List.Elements.{Contains-push_cases}
use Rattle.std.proofs.lemmas.Option.{same_Some}
use Rattle.postcard_source.specs.declared.token.Token.{Token}
use Rattle.postcard_source.specs.declared.declaration.Declaration.{Declaration}
use Rattle.postcard_source.specs.Steps.{Steps, none, more}
use Rattle.postcard_source.specs.Tokens.{Says}
use Rattle.postcard_source.specs.Items.{NamesDiffer}
use Rattle.postcard_source.specs.Expands.{Refers, Mentions, Spells, begun, own, named, Reaches, IsRecursive, IsChain, alone, linked}
use borrow.Author.Count.{below_more}

-- If steps lead from a to b, then a is b, or a first step leads from a to some c, from which steps lead to b.
pub first_step : {X : Type 0} {R : X → X → Type 0} (a b : X) → Steps R a b → (a ≡ b) ⊎ ((c : X) × R a c × Steps R c b)
first_step a b none = inl refl
first_step {X} {R} a b (more {s} {t} before step) = elim (first_step a s before) as (λ _. (a ≡ t) ⊎ ((c : X) × R a c × Steps R c t)) [
  | inl same ↦ inr (t, subst (λ x. R x t) (sym same) step, none)
  | inr found ↦ inr (found.0, found.1, more found.2 step)
]

-- Every path of mentions from the declaration is finite.
data Ends (tokens : List Token) (known : List Declaration) : Declaration → Type 0 where
  ends : (d : Declaration) → ((e : Declaration) → Mentions tokens known d e → Ends tokens known e) → Ends tokens known d

-- If d ends, so does each declaration that d mentions.
mentioned_ends : (tokens : List Token) (known : List Declaration) (d e : Declaration) → Ends tokens known d → Mentions tokens known d e → Ends tokens known e
mentioned_ends tokens known d e (ends _ f) mention = f e mention

-- If d ends, so does each declaration that d reaches.
reached_ends : (tokens : List Token) (known : List Declaration) (d e : Declaration) → Ends tokens known d → Reaches tokens known d e → Ends tokens known e
reached_ends tokens known d e h none = h
reached_ends tokens known d e h (more {s} {t} before step) = mentioned_ends tokens known s t (reached_ends tokens known d s h before) step

-- If d ends, no declaration that d mentions reaches d.
no_cycle : (tokens : List Token) (known : List Declaration) (d : Declaration) → Ends tokens known d → (e : Declaration) → Mentions tokens known d e → Reaches tokens known e d → ⊥
no_cycle tokens known d (ends _ f) e mention back = elim (first_step e d back) as (λ _. ⊥) [
  | inl same ↦ no_cycle tokens known e (f e mention) e (subst (λ x. Mentions tokens known x e) (sym same) mention) none
  | inr found ↦ no_cycle tokens known e (f e mention) found.0 found.1 (more found.2 mention)
]

-- If no two declarations have the same name, a token refers to one declaration at most.
same_reference : (tokens : List Token) (known : List Declaration) (d e f : Declaration) (i : ℕ) → NamesDiffer known → Refers tokens known d i e → Refers tokens known d i f → e ≡ f
same_reference tokens known d e f i differ (t, is_t, _, in_e, says_e) (u, is_u, _, in_f, says_f) =
    let same : t ≡ u = same_Some t u (sym is_t ∙ is_u) in
    differ e f in_e in_f (says_f ∙ ap (λ (k : Token). k.text.now) (sym same) ∙ sym says_e)

-- If the tokens of d before index j stand for a text, each declaration that one of these tokens refers to ends.
spelled_ends : (tokens : List Token) (known : List Declaration) → NamesDiffer known → (d : Declaration) (j : ℕ) (text : List ℕ) → Spells tokens known d j text
    → (k : ℕ) → k < j → (e : Declaration) → d.start ≤ k → Refers tokens known d k e → Ends tokens known e
spelled_ends tokens known differ d j text (begun _) k high e low refers = absurd (omega arith)
spelled_ends tokens known differ d j text (own _ i _ before word _ spelled is_own is_next _) k high e low refers =
    let within : k < i + 1 = omega arith in
    below_more (λ n. (e : Declaration) → d.start ≤ n → Refers tokens known d n e → Ends tokens known e) i
    (λ n less. spelled_ends tokens known differ d i before spelled n less)
    (λ e _ refers. absurd (is_own.0 e refers)) k within e low refers
spelled_ends tokens known differ d j text (named _ f i _ before inner _ spelled is_named whole is_next _) k high e low refers =
    let within : k < i + 1 = omega arith in
    below_more (λ n. (e : Declaration) → d.start ≤ n → Refers tokens known d n e → Ends tokens known e) i
    (λ n less. spelled_ends tokens known differ d i before spelled n less)
    (λ e _ refers. subst (Ends tokens known) (same_reference tokens known d f e i differ is_named refers)
    (ends f (λ g (n, start, end, mention). spelled_ends tokens known differ f f.end inner whole n end g start mention))) k within e low refers

-- A declaration that stands for a text isn't recursive.
pub spelled_not_recursive : (tokens : List Token) (known : List Declaration) (root : Declaration) (text : List ℕ) → NamesDiffer known → Spells tokens known root root.end text
    → IsRecursive tokens known root → ⊥
spelled_not_recursive tokens known root text differ spelled (d, e, to, mention, back) =
    let finite = ends root (λ f (n, start, end, refers). spelled_ends tokens known differ root root.end text spelled n end f start refers) in
    no_cycle tokens known d (reached_ends tokens known root d finite to) e mention back

-- The first declaration of a chain reaches the last one.
chain_reaches : (tokens : List Token) (known : List Declaration) (root : Declaration) (ds : List Declaration) (d : Declaration) → IsChain tokens known root ds d → Reaches tokens known root d
chain_reaches tokens known root ds d (alone _ _ _) = none
chain_reaches tokens known root es e (linked d _ ds _ before mention _) = more (chain_reaches tokens known root ds d before) mention

-- Each declaration of a chain is a known one, and reaches the last of the chain.
chain_known : (tokens : List Token) (known : List Declaration) (root : Declaration) (ds : List Declaration) (d : Declaration) → IsChain tokens known root ds d
    → (x : Declaration) → Contains ds x → Contains known x × Reaches tokens known x d
chain_known tokens known root ds d (alone held _ is) x has =
    elim (Contains-push_cases [] root x (subst (λ l. Contains l x) is has)) as (λ _. Contains known x × Reaches tokens known x root) [
      | inl nowhere ↦ absurd (omega (arith, nowhere.1))
      | inr same ↦ (subst (Contains known) same held, subst (λ y. Reaches tokens known y root) same none)
    ]
chain_known tokens known root es e (linked d _ ds _ before mention is) x has =
    elim (Contains-push_cases ds e x (subst (λ l. Contains l x) is has)) as (λ _. Contains known x × Reaches tokens known x e) [
      | inl earlier ↦ let h = chain_known tokens known root ds d before x earlier in (h.0, more h.1 mention)
      | inr same ↦ let (i, start, end, (t, is_t, plain, held, says)) = mention in (subst (Contains known) same held, subst (λ y. Reaches tokens known y e) same none)
    ]

-- If the last declaration of a chain refers to one with the name of a declaration of the chain, the chain's first one is recursive.
pub comes_again : (tokens : List Token) (known : List Declaration) (root : Declaration) (ds : List Declaration) (d e x : Declaration) (i : ℕ)
    → IsChain tokens known root ds d → Contains ds x → d.start ≤ i → i < d.end → Refers tokens known d i e → Says e.name.text.now x.name → IsRecursive tokens known root
comes_again tokens known root ds d e x i chained has start end (t, is_t, plain, held, says) same =
    let (in_x, back) = chain_known tokens known root ds d chained x has in
    (d, x, chain_reaches tokens known root ds d chained, (i, start, end, (t, is_t, plain, in_x, same ∙ says)), back)

-- A chain that ends with d, and then a declaration e that a token of d refers to, are a chain that ends with e.
pub longer : (tokens : List Token) (known : List Declaration) (root : Declaration) (ds es : List Declaration) (d e : Declaration) (i : ℕ)
    → IsChain tokens known root ds d → d.start ≤ i → i < d.end → Refers tokens known d i e → es ≡ ds ++ e ∷ [] → IsChain tokens known root es e
longer tokens known root ds es d e i before start end refers is = linked d e ds es before (i, start, end, refers) is
