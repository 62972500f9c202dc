-- The bytes before the loop's place are those of the scalar, which ends at the first byte that may not be part of one.
use Rattle.std.proofs.Common.{sym, ◌∙◌}
use Rattle.postcard_value_json_read.proofs.Ends.{byte_off}
use Rattle.postcard_value_json_read.proofs.ValueLemmas.{scalar_here, scalar_on}
use Rattle.postcard_value_json_read.proofs.skip.after_scalar.Goals as goal

pub returns-then-ends_scalar-clause-after : goal.returns-then-ends_scalar-clause-after
returns-then-ends_scalar-clause-after c = λ value rest is ends whole.
    let (more, left, e) = c.bytes.invariant.after value rest is ends whole in
    c.in-Some.ensures.cases.0 ∙ scalar_here c.in-Some.byte.now c.in-Some.rest.now more rest left (sym c.in-Some.ensures.cases.0 ∙ e) (sym c.if-ends_scalar.ensures)

pub bytes-preserved : goal.bytes-preserved
bytes-preserved c = record {
  after = λ value rest is ends whole.
      let (more, left, e) = c.bytes.invariant.after value rest is ends whole in
      scalar_on c.in-Some.byte.now c.in-Some.rest.now more rest left ends (sym c.in-Some.ensures.cases.0 ∙ e) (sym c.if-ends_scalar.ensures);
  end = byte_off c.args.text.now c.bytes.left.now c.in-Some.rest.now c.in-Some.byte.now c.bytes.invariant.end c.in-Some.ensures.cases.0;
}
