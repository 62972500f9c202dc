-- The entry at j is what eight more powers of x make of the byte, or of the entry 256 places before.
use Rattle.std.proofs.Common.{◌≡◌, ◌*◌, ◌-◌, ◌^◌, ◌<◌, ◌≤◌, ap, subst, sym, ◌∙◌, arith}
use Rattle.crc.specs.Algorithm.{parameters}
use Rattle.crc.specs.Register.{feedback, rounds, entry, first_byte}
use Rattle.crc.proofs.CrcLemmas.{entry_first, entry_later, entry_below, entry_written}
use Rattle.crc.proofs.entries.fill.Given as given
use Rattle.crc.proofs.entries.fill.Goals as goal
use Rattle.crc.proofs.entries.fill.Goals.{then-j-lt256, else-j-lt256, After-eight}

made : (g : given.Over) (c : After-eight g) → c.eight.result ≡ entry (8 * g.W.Width.size) (parameters g.W.Width.number c.args.algorithm.now) c.loop-j.j
made g c =
    let n = 8 * g.W.Width.size in
    let a = parameters g.W.Width.number c.args.algorithm.now in
    let o = c.args.algorithm.now.refin in
    let j = c.loop-j.j in
    let e = c.bits-bits.ensures.bits in
    c.eight.ensures ∙ ap (λ b. rounds o b c.feedback-feedback.result 8 c.if-j-lt256.start) e
    ∙ ap (λ f. rounds o n f 8 c.if-j-lt256.start) c.feedback-feedback.ensures.is
    ∙ elim c.if-j-lt256.branch [
      | then-j-lt256 w ↦ ap (rounds o n (feedback n a) 8) (w.start-is ∙ w.first_byte-start.ensures ∙ ap (λ b. first_byte o b j) e) ∙ entry_first n a j w.if-j-lt256.true
      | else-j-lt256 w ↦
          let before : j - 256 < j = omega arith in
          ap (rounds o n (feedback n a) 8) (w.start-is ∙ w.look_up-start.ensures.number ∙ c.loop-j.invariant (j - 256) before) ∙ entry_later n a j w.if-j-lt256.false
    ]

pub from_u128-requires : goal.from_u128-requires
from_u128-requires g c =
    let n = 8 * g.W.Width.size in
    let a = parameters g.W.Width.number c.args.algorithm.now in
    subst (λ y. y < 2 ^ n) (sym (made g (goal.at.from_u128-requires g c).After-eight)) (entry_below n a (subst (λ b. 8 ≤ b) c.bits-bits.ensures.bits c.bits-bits.ensures.some) c.requires c.loop-j.j)

pub loop-j-preserved : goal.loop-j-preserved
loop-j-preserved g c =
    entry_written g.W.Width.number (8 * g.W.Width.size) (parameters g.W.Width.number c.args.algorithm.now) c.loop-j.entries c.loop-j.j c.from_u128.result
    (subst (λ y. c.loop-j.j < y) (sym c.loop-j.auto.entries) c.loop-j-test.true) (c.from_u128.ensures ∙ made g (goal.at.loop-j-preserved g c).After-eight) c.loop-j.invariant
