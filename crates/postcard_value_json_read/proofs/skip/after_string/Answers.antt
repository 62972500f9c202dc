-- The first quote that isn't escaped ends the string.
use Rattle.std.proofs.Common.{[], ◌∷◌, sym, ◌∙◌, subst, arith}
use Rattle.postcard_value_json_read.specs.Values.{AreQuoted}
use Rattle.postcard_value_json_read.proofs.Ends.{byte_off}
use Rattle.postcard_value_json_read.proofs.ValueLemmas.{escaped_on, quoted_in, quoted_on}
use Rattle.postcard_value_json_read.proofs.skip.after_string.Goals as goal

pub bytes-init : goal.bytes-init
bytes-init c = record {
  after = λ inside rest is whole. (inside, is, quoted_in c.in-Some.field-0-0.now c.in-Some.left.now inside rest (sym c.in-Some.ensures.cases.0 ∙ whole));
  shorter = omega (arith, c.in-Some.ensures.cases.1);
  end = (c.in-Some.field-0-0.now ∷ [], c.in-Some.ensures.cases.0);
}

pub bytes-preserved-then-escaped : goal.bytes-preserved-then-escaped
bytes-preserved-then-escaped c = record {
  after = λ inside rest is whole.
      let (more, left, e) = c.bytes.invariant.after inside rest is whole in
      escaped_on c.in-Some-split_first.byte.now c.in-Some-split_first.rest.now more rest (subst (λ b. AreQuoted b more) c.if-escaped.true left) (sym c.in-Some-split_first.ensures.cases.0 ∙ e);
  shorter = omega (arith, c.bytes.invariant.shorter, c.in-Some-split_first.ensures.cases.1);
  end = byte_off c.args.text.now c.bytes.left.now c.in-Some-split_first.rest.now c.in-Some-split_first.byte.now c.bytes.invariant.end c.in-Some-split_first.ensures.cases.0;
}

pub returns-then-byte-eq34-clause-end : goal.returns-then-byte-eq34-clause-end
returns-then-byte-eq34-clause-end c = byte_off c.args.text.now c.bytes.left.now c.in-Some-split_first.rest.now c.in-Some-split_first.byte.now c.bytes.invariant.end c.in-Some-split_first.ensures.cases.0

pub bytes-preserved : goal.bytes-preserved
bytes-preserved c = record {
  after = λ inside rest is whole.
      let (more, left, e) = c.bytes.invariant.after inside rest is whole in
      quoted_on c.in-Some-split_first.byte.now c.in-Some-split_first.rest.now more rest (subst (λ b. AreQuoted b more) c.if-escaped.false left) (sym c.in-Some-split_first.ensures.cases.0 ∙ e) c.if-byte-eq34.false;
  shorter = omega (arith, c.bytes.invariant.shorter, c.in-Some-split_first.ensures.cases.1);
  end = byte_off c.args.text.now c.bytes.left.now c.in-Some-split_first.rest.now c.in-Some-split_first.byte.now c.bytes.invariant.end c.in-Some-split_first.ensures.cases.0;
}
