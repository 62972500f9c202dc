use Rattle.std.proofs.Common.{◌≡◌, ℕ, take, drop, arith, length-drop}
use Rattle.std.proofs.Math.ListN.{length-set}
use Rattle.std.proofs.lemmas.List.{length-take-le, take_all}
use Rattle.postcard_wire.proofs.WordBits.{or_zero}
use Rattle.postcard_wire.proofs.Runs.{goes_on_cut}
use Rattle.postcard_wire.proofs.words.cut.Goals as goal

pub loop-i-preserved : goal.loop-i-preserved
loop-i-preserved c = record {
  sized = omega (arith, length-set {A = ℕ}, c.loop-i.invariant.sized);
  within = omega arith;
  some = omega (arith, c.loop-i-test.true);
  so = λ none.
      let both = or_zero c.loop-i.wrong c.cut_one-differs.result.0 none in
      let block = c.args.block.now in
      let left = length-drop c.loop-i.len block in
      let eight = length-take-le 8 (drop c.loop-i.len block) (omega (arith, left, c.told-block, c.loop-i.invariant.within)) in
      let one = c.cut_one-differs.ensures (take 8 (drop c.loop-i.len block)) c.word_at.ensures.bytes eight c.word_at.ensures.word both.1 in
      goes_on_cut c.args.bits c.loop-i.digits c.loop-i.i block c.loop-i.len c.min-bytes.result _ c.cut_one-differs.result.1
      (omega (arith, c.loop-i-test.true, c.loop-i.invariant.sized)) one.1 (omega (arith, one.1, c.min-bytes.ensures, c.loop-i.invariant.within)) (c.loop-i.invariant.so both.0) one.0;
}

pub returns : goal.returns
returns c =
    let i : c.loop-i.i ≡ 12 = omega (arith, c.loop-i-test.false, c.loop-i.auto.i-end) in
    let so = c.loop-i.invariant.so c.if-wrong-ne0.false in
    let whole : take c.loop-i.i c.loop-i.digits ≡ c.loop-i.digits = take_all _ c.loop-i.digits (omega (arith, i, c.loop-i.invariant.sized)) in
    (omega (arith, i, c.loop-i.invariant.some), c.loop-i.invariant.within, c.loop-i.invariant.sized, rw whole at so)
