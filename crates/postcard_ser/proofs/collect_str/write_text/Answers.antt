-- The flavor has appended what the formatter's writer took.
use Rattle.postcard_ser.proofs.Printed.{printed}
use Rattle.postcard_ser.proofs.collect_str.write_text.Goals as goal

pub returns-clause-appends : goal.returns-clause-appends
returns-clause-appends g c =
    let law = g.F.Flavor.lawful in
    printed (λ w. w.output) g.F.Flavor.appended law.appended_none law.appended_join _ _ _ _ _ _ c.new-formatter.ensures.writer c.write-result.ensures.writes c.new-formatter.ensures.plain c.into_inner-output.ensures
