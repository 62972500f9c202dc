-- Printing one more element adds its text, after a comma if it isn't the first. `lead i b` is `b` before element i, and nothing if i is 0.
use Rattle.std.proofs.Common.{ℕ, zero, suc, ◌≡◌, ◌<◌, ◌≤◌, List, [], ◌∷◌, Ok, Some, map, take, length, sym, refl, arith}
use Rattle.std.proofs.Output.{displays_on_IsOk_append, displays_on_ok_of_eq}
use Rattle.std.specs.Fmt.{◌++?◌}
use Rattle.postcard_value_text.specs.Shown.{joined, lead}
use Rattle.postcard_value_text.proofs.Joined.{elements_more}
use Rattle.pcard_calls.proofs.joined.JoinedDisplay.fmt.Goals as goal
use Rattle.pcard_calls.proofs.joined.JoinedDisplay.fmt.Goals.{then-i-gt0, else-i-gt0}

lead_first : (i : ℕ) (b : List ℕ) → i ≤ 0 → lead i b ≡ []
lead_first zero b low = refl
lead_first (suc i) b low = absurd (omega (arith, low))

lead_later : (i : ℕ) (b : List ℕ) → 0 < i → lead i b ≡ b
lead_later zero b high = absurd (omega (arith, high))
lead_later (suc i) b high = refl

pub loop-i-preserved : goal.loop-i-preserved
loop-i-preserved g c =
    let h = g.T.Display.output in
    let xs = c.args.self.now.0.now in
    let i = c.loop-i.i in
    let x = c.item-item.result in
    let low : i < length xs = omega arith in
    let before : c.if-i-gt0.before.now ≡ lead i (44 ∷ []) = elim c.if-i-gt0.branch [
      | then-i-gt0 w ↦ rw w.before-is (sym (lead_later i (44 ∷ []) w.if-i-gt0.true))
      | else-i-gt0 w ↦ rw w.before-is (sym (lead_first i (44 ∷ []) w.if-i-gt0.false))
    ] in
    displays_on_ok_of_eq g.W.Write.write_str_gives _ _ (Ok tt) _ _ (sym (elements_more (44 ∷ []) h xs i x low c.item-item.is))
    (displays_on_IsOk_append g.W.Write.write_str_gives _ c.loop-i.f _ (Ok tt) (Ok tt) (joined (44 ∷ []) (map h (take i xs))) (Some (lead i (44 ∷ [])) ++? h x) (λ p. p)
    c.loop-i.invariant (rw before at c.in_ok-write.ensures.writes))
