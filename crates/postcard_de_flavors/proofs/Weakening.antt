-- Weakening the contract of a method that lends: what it says of the lender after the loan, and the
-- order of its clauses.
use seplogic.Ra.Ura.{Ura}
use base.Logic.{SProp, ent, sep, wand, all, emp, all_i, ex_i, ex_e, wand_i, via, fst∗, snd∗, emp∗, mono_l, mono_r}
use contract.Monad.{fact, fact_use}
use types.Logic.{Logic, sem}
use denote.RattleType.{RattleType}
use denote.Triple.Impl.{with_fact}
use denote.Follow.{such_by, follows_if}
use mathlib.Core.Option.{none}
use borrow.Fn.Refines.{Turns, Gives}
use Rattle.std.specs.Borrow.{MutBor}
use Rattle.std.specs.Prelude.{⊤}
use Rattle.std.specs.Io.BufRead.{Rests}

-- If P implies Q, then a lender that satisfies P after the loan satisfies Q after the loan.
pub rests_less : {M : Type 1} {𝓤 : Ura M} (𝓛 : Logic 𝓤) (R : RattleType) (s : MutBor R.Denot) (P Q : R.Denot → Type 0) → ((v : R.Denot) → P v → Q v) → ent 𝓤 (sem 𝓛 (Rests R s P)) (sem 𝓛 (Rests R s Q))
unfolding such_by
rests_less {𝓤 = 𝓤} 𝓛 R s P Q less = ex_e 𝓤 _ (λ t.
    ex_i 𝓤 (λ (u : (f : (R.Denot → R.Denot) × R.Denot) × ((w : R.Denot) → ⊤) × Q f.1). sem 𝓛 (follows_if R R s.ghost_name none u.0.0 u.0.1)) (t.0, t.1, less t.0.1 t.2))

-- From the clauses A, P, B and C follow A, Q, D and B, if P entails Q and C implies D.
pub reordered : {M : Type 1} (𝓤 : Ura M) (A B C D : Type 0) (P Q : SProp 𝓤) → ent 𝓤 P Q → (C → D)
    → ent 𝓤 (sep 𝓤 (fact 𝓤 A) (sep 𝓤 P (sep 𝓤 (fact 𝓤 B) (fact 𝓤 C)))) (sep 𝓤 (fact 𝓤 A) (sep 𝓤 Q (sep 𝓤 (fact 𝓤 D) (fact 𝓤 B))))
reordered 𝓤 A B C D P Q h f =
    let facts : ent 𝓤 (sep 𝓤 (fact 𝓤 B) (fact 𝓤 C)) (sep 𝓤 (fact 𝓤 D) (fact 𝓤 B)) =
    fact_use 𝓤 C (snd∗ 𝓤 (fact 𝓤 B) (fact 𝓤 C)) (λ c. via 𝓤 (fact 𝓤 B) (fst∗ 𝓤 (fact 𝓤 B) (fact 𝓤 C)) (with_fact 𝓤 D (fact 𝓤 B) (f c))) in
    mono_r 𝓤 (fact 𝓤 A) (via 𝓤 (sep 𝓤 Q (sep 𝓤 (fact 𝓤 B) (fact 𝓤 C))) (mono_l 𝓤 (sep 𝓤 (fact 𝓤 B) (fact 𝓤 C)) h) (mono_r 𝓤 Q facts))

-- A method without a precondition meets its trait's contract if what it ensures entails what the
-- trait's method ensures.
pub turns : {M : Type 1} (𝓤 : Ura M) (R X : Type 0) (D D' : R → X → SProp 𝓤) → ((r : R) (e : X) → ent 𝓤 (D r e) (D' r e)) → Gives 𝓤 (emp 𝓤) (Unit {0}) (λ g. emp 𝓤) (λ g. Turns 𝓤 R X D D')
turns 𝓤 R X D D' post =
    let W : SProp 𝓤 = Turns 𝓤 R X D D' in
    let kept : ent 𝓤 (emp 𝓤) W = all_i 𝓤 (λ (r : R). all 𝓤 (λ (e : X). wand 𝓤 (D r e) (D' r e))) (λ r. all_i 𝓤 (λ (e : X). wand 𝓤 (D r e) (D' r e)) (λ e.
    wand_i 𝓤 (emp 𝓤) (D r e) (D' r e) (via 𝓤 (D r e) (snd∗ 𝓤 (emp 𝓤) (D r e)) (post r e)))) in
    via 𝓤 (sep 𝓤 (emp 𝓤) W) (via 𝓤 W kept (emp∗ 𝓤 W)) (ex_i 𝓤 (λ (g : Unit {0}). sep 𝓤 (emp 𝓤) W) tt)
