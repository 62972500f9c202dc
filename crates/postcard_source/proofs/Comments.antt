-- If the text ends within a comment, it begins with no complete comment. Each state has one next state, so two runs from the
-- same start are the same run, and one is the beginning of the other. The bytes: 42 is `*` and 47 is `/`.
use Rattle.std.proofs.Common.{◌≡◌, ℕ, ◌+◌, ◌<◌, ◌≤◌, List, [], ◌∷◌, length, sym, ap, subst, ◌∙◌, arith, ◌⊎◌, inl, inr}
use Rattle.postcard_schema_text.specs.FrontLemmas.{same_first, same_rest, not_empty}
use Rattle.postcard_source.specs.Steps.{Steps, none, more}
use Rattle.postcard_source.specs.Lexical.{CommentStep, IsBlockComment}
use Rattle.postcard_source.proofs.Recursion.{first_step}

-- A step from a state in which a comment is open.
abbrev pub Inside : ℕ × List ℕ → ℕ × List ℕ → Type 0
Inside s t = CommentStep s t × (0 < t.0)

-- No text begins both with `*/` and with `/*`.
ends_or_begins : (s t u : List ℕ) → s ≡ 42 ∷ 47 ∷ t → s ≡ 47 ∷ 42 ∷ u → ⊥
ends_or_begins s t u e f = let h : 42 ≡ 47 = same_first (sym e ∙ f) in absurd (omega (arith, h))

-- Two steps from one state lead to the same state: the same number of open comments, and the same text.
one_step : (m n k : ℕ) (s t u : List ℕ) → CommentStep (m, s) (n, t) → CommentStep (m, s) (k, u) → (n ≡ k) × (t ≡ u)
one_step m n k s t u (inl (d, e)) (inl (f, g)) = (omega (arith, d, f), same_rest (same_rest (sym e ∙ g)))
one_step m n k s t u (inl (d, e)) (inr (inl (f, g))) = absurd (ends_or_begins s t u e g)
one_step m n k s t u (inl (d, e)) (inr (inr (b, f, g, no_end, no_start))) = absurd (no_end (t, e))
one_step m n k s t u (inr (inl (d, e))) (inl (f, g)) = absurd (ends_or_begins s u t g e)
one_step m n k s t u (inr (inl (d, e))) (inr (inl (f, g))) = (omega (arith, d, f), same_rest (same_rest (sym e ∙ g)))
one_step m n k s t u (inr (inl (d, e))) (inr (inr (b, f, g, no_end, no_start))) = absurd (no_start (t, e))
one_step m n k s t u (inr (inr (b, d, e, no_end, no_start))) (inl (f, g)) = absurd (no_end (u, g))
one_step m n k s t u (inr (inr (b, d, e, no_end, no_start))) (inr (inl (f, g))) = absurd (no_start (u, g))
one_step m n k s t u (inr (inr (b, d, e, no_end, no_start))) (inr (inr (a, f, g, never, neither))) = (sym d ∙ f, same_rest (sym e ∙ g))

-- Pairs with equal parts are equal.
same_pair : (n k : ℕ) (t u : List ℕ) → n ≡ k → t ≡ u → (λ (x : ℕ × List ℕ). x) (n, t) ≡ (λ (x : ℕ × List ℕ). x) (k, u)
same_pair n k t u e f = cc

-- Two steps from one state lead to the same state, where each state is one variable.
same_state : (s t u : ℕ × List ℕ) → CommentStep s t → CommentStep s u → t ≡ u
same_state (m, s) (n, t) (k, u) f g =
    let both = one_step m n k s t u f g in
    same_pair n k t u both.0 both.1

-- If steps lead from a start to a and to b, steps lead from a to b or from b to a.
in_line : (start a b : ℕ × List ℕ) → Steps Inside start a → Steps Inside start b → Steps Inside a b ⊎ Steps Inside b a
in_line start a b first none = inr first
in_line start a b first (more {s} {t} before step) = elim (in_line start a s first before) as (λ _. Steps Inside a t ⊎ Steps Inside t a) [
  | inl up ↦ inl (more up step)
  | inr down ↦ elim (first_step s a down) as (λ _. Steps Inside a t ⊎ Steps Inside t a) [
    | inl same ↦ inl (subst (λ x. Steps Inside x t) same (more none step))
    | inr found ↦ inr (subst (λ x. Steps Inside x a) (same_state s found.0 t found.1.0 step.0) found.2)
  ]
]

-- From a state without text, no step leads.
no_step : (s t : ℕ × List ℕ) → s.1 ≡ [] → CommentStep s t → ⊥
no_step s t empty (inl (d, e)) = not_empty (sym empty ∙ e)
no_step s t empty (inr (inl (d, e))) = not_empty (sym empty ∙ e)
no_step s t empty (inr (inr (b, d, e, no_end, no_start))) = not_empty (sym empty ∙ e)

-- A step doesn't increase the sum of the open comments and the bytes that are left.
pub step_bound : (s t : ℕ × List ℕ) → CommentStep s t → t.0 + length t.1 ≤ s.0 + length s.1
step_bound s t (inl (depth, e)) = let h = ap length e in omega (arith, h, depth)
step_bound s t (inr (inl (depth, e))) = let h = ap length e in omega (arith, h, depth)
step_bound s t (inr (inr (b, depth, e, no_end, no_start))) = let h = ap length e in omega (arith, h, depth)

-- If steps within the comment lead from its beginning to a state without text, no complete comment begins the text.
-- By `in_line`, the state where a comment would close is before or after that one, and neither is possible.
pub never_closed : (text inner rest : List ℕ) (s : ℕ × List ℕ) → text ≡ 47 ∷ 42 ∷ inner → Steps Inside (1, inner) s → s.1 ≡ [] → IsBlockComment text rest → ⊥
never_closed text inner rest s begins run empty (other, again, (last, steps, end)) =
    let same : other ≡ inner = same_rest (same_rest (sym again ∙ begins)) in
    let run' = subst (λ i. Steps Inside (1, i) last) same steps in
    elim (in_line (1, inner) s last run run') as (λ _. ⊥) [
      | inl on ↦ elim (first_step s last on) as (λ _. ⊥) [
        | inl is ↦ no_step s (0, rest) empty (subst (λ x. CommentStep x (0, rest)) (sym is) end)
        | inr found ↦ no_step s found.0 empty found.1.0
      ]
      | inr back ↦ elim (first_step last s back) as (λ _. ⊥) [
        | inl is ↦ no_step s (0, rest) empty (subst (λ x. CommentStep x (0, rest)) is end)
        | inr found ↦ (let e : found.0 ≡ (0, rest) = same_state last found.0 (0, rest) found.1.0 end in absurd (let z = ap (λ (x : ℕ × List ℕ). x.0) e in omega (arith, z, found.1.1)))
      ]
    ]
