-- Each turn skips one piece of the text: a string, a bracket or another byte. The bracket that closes the first one ends the loop.
use Rattle.std.proofs.Common.{◌∷◌, [], sym, ◌∙◌, subst, arith}
use Rattle.postcard_value_json_read.proofs.Ends.{byte_off, end_of_end}
use Rattle.postcard_value_json_read.proofs.ValueLemmas.{byte_step, first_open, open_ended, quote_step, Open}
use Rattle.postcard_value_json_read.proofs.skip.after_nested.Goals as goal

pub pieces-init : goal.pieces-init
pieces-init c = record {
  within = λ value rest is whole.
      first_open c.in-Some.first.now c.depth_after-depth.result c.in-Some.left.now value rest is (sym c.in-Some.ensures.cases.0 ∙ whole) (λ o. c.depth_after-depth.ensures.opened o (omega arith));
  few = omega (arith, c.depth_after-depth.ensures.at_most, c.in-Some.ensures.cases.1);
  end = (c.in-Some.first.now ∷ [], c.in-Some.ensures.cases.0);
}

pub pieces-preserved-then-byte-eq34 : goal.pieces-preserved-then-byte-eq34
pieces-preserved-then-byte-eq34 c =
    let told = c.in-Some-split_first.ensures.cases in
    let string = c.after_string-left in
    record {
      within = λ value rest is whole.
          let before = subst (λ t. Open c.pieces.depth t rest) told.0 (c.pieces.invariant.within value rest is whole) in
          quote_step c.pieces.depth c.in-Some-split_first.byte.now c.in-Some-split_first.rest.now rest string.result.now before c.pieces-test.true c.if-byte-eq34.true
          (λ inside more q e. string.ensures.after inside more q (told.0 ∙ e));
      few = omega (arith, string.ensures.shorter, c.pieces.invariant.few);
      end = end_of_end c.args.text.now c.pieces.left.now string.result.now c.pieces.invariant.end string.ensures.end;
    }

pub pieces-preserved : goal.pieces-preserved
pieces-preserved c =
    let told = c.in-Some-split_first.ensures.cases in
    let byte = c.in-Some-split_first.byte.now in
    let after = c.in-Some-split_first.rest.now in
    let next = c.depth_after-depth-else-byte-eq34 in
    record {
      within = λ value rest is whole.
          let before = subst (λ t. Open c.pieces.depth t rest) told.0 (c.pieces.invariant.within value rest is whole) in
          byte_step c.pieces.depth byte next.result after rest before c.pieces-test.true c.if-byte-eq34.false
          (λ o. next.ensures.opened o (omega (arith, c.pieces.invariant.few, told.1))) next.ensures.closed next.ensures.same;
      few = omega (arith, next.ensures.at_most, told.1, c.pieces.invariant.few);
      end = byte_off c.args.text.now c.pieces.left.now after byte c.pieces.invariant.end told.0;
    }

pub returns-clause-after : goal.returns-clause-after
returns-clause-after c = λ value rest is whole. open_ended c.pieces.depth c.pieces.left.now rest (c.pieces.invariant.within value rest is whole) c.pieces-test.false
