-- Each turn reads one key and skips its value (`MemberLemmas`). The last value with the name is kept.
use Rattle.std.proofs.Common.{◌++◌, [], refl, sym, ap, ◌∙◌, true≢false, inl, arith}
use Rattle.postcard_schema_text.proofs.Refusals.{takes_less}
use Rattle.postcard_value_json_read.proofs.Ends.{blanks_off, end_of_end, sign_off}
use Rattle.postcard_value_json_read.proofs.MemberLemmas.{Finds, Held, Key, colon_ahead, end_shorter, finds_here, finds_kept, members_of, turn}
use Rattle.postcard_value_json_read.proofs.place.from_member.Goals.{then-branch, else-branch}
use Rattle.postcard_value_json_read.proofs.place.from_member.Goals as goal

pub members-init : goal.members-init
members-init c =
    let text = c.args.object.now in
    let a = c.take.new.rest.now in
    record {
      member = λ rest h. (
        λ yes. inl (members_of c.args.name.now text a rest c.take.result c.take.ensures.taken c.take.ensures.none h),
        λ no. absurd (true≢false no),
      );
      found = ([], refl);
      left = sign_off c.take.result 123 text a c.take.ensures.taken c.take.ensures.left;
    }

pub returns-then-not-take-clause-member : goal.returns-then-not-take-clause-member
returns-then-not-take-clause-member c = λ rest h.
    let text = c.members.rest.now in
    let key = c.take_string-key.result.now in
    let a = c.take_string-key.new.rest.now in
    let b = c.take-in-members.new.rest.now in
    let colon = c.take-in-members.result in
    let k : Key text key a b colon = record { string = c.take_string-key.ensures.taken; taken = c.take-in-members.ensures.taken; none = c.take-in-members.ensures.none } in
    absurd (true≢false (sym (colon_ahead c.args.name.now text key a b c.members.found.now rest colon ((c.members.invariant.member rest h).0 c.members-test.true) k) ∙ c.if-not-take.true))

pub members-preserved : goal.members-preserved
members-preserved c =
    let name = c.args.name.now in
    let object = c.args.object.now in
    let text = c.members.rest.now in
    let key = c.take_string-key.result.now in
    let a = c.take_string-key.new.rest.now in
    let b = c.take-in-members.new.rest.now in
    let v = c.skip_blanks.new.rest.now in
    let w = c.after_value-rest.result.now in
    let x = c.take-more.new.rest.now in
    let found = c.members.found.now in
    let next = c.if-branch.found.now in
    let colon = c.take-in-members.result in
    let comma = c.take-more.result in
    let is = c.in_ok-is_string.field-0 in
    let told = c.in_ok-is_string.ensures in
    let k : Key text key a b colon = record { string = c.take_string-key.ensures.taken; taken = c.take-in-members.ensures.taken; none = c.take-in-members.ensures.none } in
    let m : Held b v w x comma = record { trimmed = c.skip_blanks.ensures; skips = c.after_value-rest.ensures.after; taken = c.take-more.ensures.taken; none = c.take-more.ensures.none } in
    let f : Finds name key v found next is = elim c.if-branch.branch [
      | then-branch w ↦ finds_here name key v found next is told.is told.other w.if-branch.true (ap (λ r. r.now) w.found-is)
      | else-branch w ↦ finds_kept name key v found next is told.is told.other w.if-branch.false (ap (λ r. r.now) w.found-is)
    ] in
    let e = end_of_end object text a c.members.invariant.left c.take_string-key.ensures.end in
    let e2 = end_of_end object a b e (sign_off colon 58 a b c.take-in-members.ensures.taken c.take-in-members.ensures.left) in
    let e3 = end_of_end object b v e2 (blanks_off b v c.skip_blanks.ensures) in
    let e4 = end_of_end object v w e3 c.after_value-rest.ensures.end in
    record {
      member = λ rest h. turn name text key a b v w x found next rest colon comma is k m f ((c.members.invariant.member rest h).0 c.members-test.true);
      found = elim c.if-branch.branch [
        | then-branch w ↦ (e3.0, e3.1 ∙ ap (λ r. e3.0 ++ r.now) (sym w.found-is))
        | else-branch w ↦ (c.members.invariant.found.0, c.members.invariant.found.1 ∙ ap (λ r. c.members.invariant.found.0 ++ r.now) (sym w.found-is))
      ];
      left = end_of_end object w x e4 (sign_off comma 44 w x c.take-more.ensures.taken c.take-more.ensures.left);
    }

pub returns-clause-member : goal.returns-clause-member
returns-clause-member c = λ rest h. (c.members.invariant.member rest h).1 c.members-test.false

-- Each turn takes a `:`.
pub members-smaller : goal.members-smaller
members-smaller c =
    let colon = takes_less 58 c.take_string-key.new.rest.now c.take-in-members.new.rest.now (c.take-in-members.ensures.taken c.if-not-take.false) in
    let value = end_shorter c.skip_blanks.new.rest.now c.after_value-rest.result.now c.after_value-rest.ensures.end in
    let blanks = end_shorter c.take-in-members.new.rest.now c.skip_blanks.new.rest.now (blanks_off c.take-in-members.new.rest.now c.skip_blanks.new.rest.now c.skip_blanks.ensures) in
    let comma = end_shorter c.after_value-rest.result.now c.take-more.new.rest.now
    (sign_off c.take-more.result 44 c.after_value-rest.result.now c.take-more.new.rest.now c.take-more.ensures.taken c.take-more.ensures.left) in
    omega (arith, colon, value, blanks, comma, c.take_string-key.ensures.shorter)
