-- If `after_trailer` finds the checksum, the data has its value, and otherwise it is refused where the checksum should begin.
use Rattle.std.proofs.Common.{◌-◌, refl, ap, length, None}
use Rattle.postcard_schema.specs.Paths.{path_text}
use Rattle.pcard_print.specs.Answers.{Why}
use Rattle.pcard_print.specs.declared.refusal.Reason.TheVariants.{BadChecksum}
use Rattle.pcard_message.proofs.ReadingLemmas.{marked, unchecked}
use Rattle.pcard_message.proofs.contents.check.Goals as goal

pub returns-in-Ok : goal.returns-in-Ok
returns-in-Ok c =
    marked c.args.format.now c.args.content.now c.args.behind.now c.args.value c.requires c.in-Some.checksum c.in-Ok.rest.now c.in-Some.is c.in-Ok.ensures.follows

pub returns-in-Err : goal.returns-in-Err
returns-in-Err c =
    let w : Why =
    record {
      offset = length c.args.content.now - length c.args.behind.now;
      reason = BadChecksum;
      path = path_text c.new.result.items;
      shown = None;
    } in
    unchecked c.args.format.now c.args.content.now c.args.behind.now c.args.value c.requires c.in-Some.checksum c.in-Err.field-0 w c.in-Some.is c.in-Err.ensures.refused refl refl
    (ap path_text c.new.ensures.items) refl
