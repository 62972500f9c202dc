-- A byte of the piece stays where it is; if it is a zero, the code before it is set.
use Rattle.std.proofs.Common.{◌≡◌, ◌+◌, ◌<◌, ◌++◌, [], length, take, drop, get_or, append-nil, length-set, ap, subst, sym, ◌∙◌, arith}
use Rattle.std.proofs.lemmas.List.{take_all, drop_all}
use Rattle.postcard_cobs.specs.Groups.{Standing}
use Rattle.postcard_ser_cobs.specs.Framing.{HoldsThen}
use Rattle.postcard_cobs.proofs.Pieces.{after_short, answer_zero, answer_other}
use Rattle.postcard_ser_cobs.proofs.PieceLemmas.{taken_as_it_is, taken_as_place, next_taken}
use Rattle.postcard_ser_cobs.proofs.steps.set_codes.Goals as goal
use Rattle.postcard_ser_cobs.proofs.steps.set_codes.Goals.{in-ModifyFromStartAndSkip, in_default}

pub loop-byte-init : goal.loop-byte-init
loop-byte-init g c =
    let s = c.requires.short in
    record {
      counted = omega arith;
      short = omega (arith, s);
      same_length = λ i. length (g.B.Storage.held c.args.storage.now);
      left = g.B.Flavor.lawful.reaches_self _;
      keeps_free = λ n h. h;
      opens = λ before d h. rw (append-nil d) h;
    }

pub push-requires : goal.push-requires
push-requires g c = record { countable = omega (arith, c.loop-byte.invariant.counted, c.loop-byte-test.true, c.requires.countable) }

pub set_code-requires : goal.set_code-requires
set_code-requires g c =
    let so = c.loop-byte.invariant in
    omega (arith, c.in-ModifyFromStartAndSkip.ensures.sets_open_code, so.counted, so.same_length, c.loop-byte-test.true, c.requires.held)

pub loop-byte-preserved : goal.loop-byte-preserved
loop-byte-preserved g c =
    let so = c.loop-byte.invariant in
    let piece = c.args.piece.now in
    let i = c.loop-byte.byte-index in
    let b = get_or piece i 0 in
    let low : c.loop-byte.encoder.code < 254 = omega (arith, so.short, c.loop-byte-test.true) in
    let is = c.push.ensures.steps in
    let moves = after_short c.loop-byte.encoder b low in
    let at = ap (λ (z : Standing). z.code_at) is.0 in
    let code = ap (λ (z : Standing). z.code) is.0 in
    elim c.match-push.branch [
      | in-ModifyFromStartAndSkip w ↦
          let to = w.storage-is in
          let said = w.set_code.ensures in
          let zero = answer_zero c.loop-byte.encoder b _ (sym is.1 ∙ w.in-ModifyFromStartAndSkip.is) in
          record {
            counted = omega (arith, at, code, moves.0, so.counted);
            short = omega (arith, code, moves.1, so.short, c.loop-byte-test.true);
            same_length = ap (λ z. length (g.B.Storage.held z)) to ∙ ap length said.sets ∙ length-set _ _ _ ∙ so.same_length;
            left = subst (λ z. g.B.Flavor.reaches c.args.storage.now z) (sym to) (g.B.Flavor.lawful.reaches_join _ _ _ so.left said.leaves);
            keeps_free = λ n h. subst (λ z. g.B.Storage.free z n) (sym to) (said.keeps_free n (so.keeps_free n h));
            opens = λ before d h. next_taken before d piece i c.loop-byte-test.true
                (λ x. taken_as_place c.push.result _ _ w.in-ModifyFromStartAndSkip.is zero w.in-ModifyFromStartAndSkip.ensures.sets_open_code (ap g.B.Storage.held to ∙ said.sets) c.push.ensures.open)
                (so.opens before d h);
          }
      | in_default w ↦
          let to = w.storage-is in
          let single = answer_other c.loop-byte.encoder b low (λ p e. w.in_default.not-ModifyFromStartAndSkip p (is.1 ∙ e)) in
          record {
            counted = omega (arith, at, code, moves.0, so.counted);
            short = omega (arith, code, moves.1, so.short, c.loop-byte-test.true);
            same_length = ap (λ z. length (g.B.Storage.held z)) to ∙ so.same_length;
            left = subst (λ z. g.B.Flavor.reaches c.args.storage.now z) (sym to) so.left;
            keeps_free = λ n h. subst (λ z. g.B.Storage.free z n) (sym to) (so.keeps_free n h);
            opens = λ before d h. subst (λ z. HoldsThen g.B.Storage.held z c.args.start c.push.new.self before (d ++ take (i + 1) piece) (drop (i + 1) piece)) (sym to)
                (next_taken before d piece i c.loop-byte-test.true (λ x. taken_as_it_is c.push.result (is.1 ∙ single) c.push.ensures.open) (so.opens before d h));
          }
    ]

pub returns-clause-opens : goal.returns-clause-opens
returns-clause-opens g c before d h =
    let so = c.loop-byte.invariant.opens before d h in
    let i = c.loop-byte.byte-index in
    let piece = c.args.piece.now in
    let end : i ≡ length piece = omega (arith, c.loop-byte-test.false, c.loop-byte.auto) in
    let all : take i piece ≡ piece = take_all i piece (omega (arith, end)) in
    let none : drop i piece ≡ [] = drop_all i piece (omega (arith, end)) in
    subst (λ z. HoldsThen g.B.Storage.held c.loop-byte.storage c.args.start c.loop-byte.encoder before (d ++ z) []) all
    (subst (λ z. HoldsThen g.B.Storage.held c.loop-byte.storage c.args.start c.loop-byte.encoder before (d ++ take i piece) z) none so)
