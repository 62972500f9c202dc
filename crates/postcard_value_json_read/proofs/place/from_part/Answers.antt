-- Each step of the path leads from a part's text to the text of a part of it, which ends where the whole text ends.
use Rattle.std.proofs.Common.{◌<◌, length, map, sym, subst, arith}
use native.Mathlib.Numerals.{add-one}
use Rattle.postcard_schema.specs.Paths.{plain_step}
use Rattle.postcard_schema_text.specs.FrontLemmas.{trim_is}
use Rattle.postcard_value_json_read.specs.Parts.{Lead}
use Rattle.postcard_value_json_read.proofs.Ends.{blanks_off, end_of_end}
use Rattle.postcard_value_json_read.proofs.PartLemmas.{lead_step}
use Rattle.postcard_value_json_read.proofs.place.from_part.Goals as goal

pub loop-step-init : goal.loop-step-init
loop-step-init c =
    let text = c.args.text.now in
    let a = c.skip_blanks.new.rest.now in
    let start = trim_is text a c.skip_blanks.ensures in
    record {
      part = λ rest h. subst (λ t. Lead (map plain_step c.deref-step-items.result.now) t rest) (sym start) (rw c.deref-step-items.ensures.value h);
      end = blanks_off text a c.skip_blanks.ensures;
    }

pub loop-step-preserved : goal.loop-step-preserved
loop-step-preserved c =
    let l = c.loop-step in
    let i = l.step-index in
    let ss = c.deref-step-items.result.now in
    let low : i < length ss = omega arith in
    let next = c.in_ok-rest.rest.now in
    record {
      part = λ rest h. rw (add-one i) (lead_step _ ss i l.rest.now next rest low (l.invariant.part rest h) c.in_ok-rest.ensures.part);
      end = end_of_end c.args.text.now l.rest.now next l.invariant.end c.in_ok-rest.ensures.end;
    }
