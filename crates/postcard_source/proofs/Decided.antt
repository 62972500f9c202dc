-- Small lemmas of tests that decide a statement, of steps, and of the tokens of a list.
use Rattle.std.proofs.Common.{◌≡◌, ℕ, Bool, false, Option, Some, None, List, Decides, sym, ap, subst, ◌∙◌, true≢false}
use Rattle.std.specs.Prelude.{IfNone}
use Rattle.std.proofs.lemmas.Option.{same_Some}
use Rattle.postcard_source.specs.declared.token.Token.{Token}
use Rattle.postcard_source.specs.Steps.{Steps, none}
use Rattle.postcard_source.specs.Tokens.{IsAt}

-- If a test decides P and is false, P doesn't hold.
pub unless : {P : Type 0} {b : Bool} → Decides b P → b ≡ false → P → ⊥
unless d e p = true≢false (sym (d.1 p) ∙ e)

-- If b is a, zero steps lead from a to b.
pub still : {X : Type 0} {R : X → X → Type 0} {a b : X} → b ≡ a → Steps R a b
still {X} {R} {a} e = subst (Steps R a) (sym e) none

-- If the token at an index is the word v and also the word w, then v is w.
pub says_one : (tokens : List Token) (i : ℕ) (v w : List ℕ) → IsAt v tokens i → IsAt w tokens i → v ≡ w
says_one tokens i v w (t, is_t, says_t) (u, is_u, says_u) = sym says_t ∙ ap (λ (k : Token). k.text.now) (same_Some t u (sym is_t ∙ is_u)) ∙ says_u

-- If P implies Q, and P holds where the option has no value, then Q holds there.
pub if_none : {X : Type 0} {P Q : Type 0} (o : Option X) → (P → Q) → IfNone o P → IfNone o Q
if_none None f p = f p
if_none (Some x) f p = p
