-- An object with one member has the wanted one if and only if looking it up finds it.
use Rattle.std.proofs.Common.{◌≡◌, sym, ◌∙◌}
use Rattle.serde_json.specs.Data.{object}
use Rattle.serde_json.specs.View.{view, members_view}
use Rattle.postcard_value_json_read.proofs.Forms.{object_is}
use Rattle.postcard_value_json_read.proofs.Variants.{member_found, no_member, not_alone}
use Rattle.postcard_value_json_read.proofs.find.only_member.Goals as goal

pub returns-then-len-ne1-clause-none : goal.returns-then-len-ne1-clause-none
returns-then-len-ne1-clause-none c =
    let d = view c.args.json.now in
    let es = c.in-Some.members.now.entries in
    let form : d ≡ object (members_view es) = object_is d (members_view es) (rw c.in-Some.is at c.as_object.ensures) in
    λ e has. not_alone es c.args.name.now d e (λ one. c.if-len-ne1.true (c.len.ensures.len ∙ one)) form has

pub returns-clause-found : goal.returns-clause-found
returns-clause-found c =
    let d = view c.args.json.now in
    let es = c.in-Some.members.now.entries in
    let form : d ≡ object (members_view es) = object_is d (members_view es) (rw c.in-Some.is at c.as_object.ensures) in
    member_found c.get.result c.args.name.now es d (sym c.len.ensures.len ∙ c.if-len-ne1.false) form c.get.ensures

pub returns-clause-none : goal.returns-clause-none
returns-clause-none c = no_member c.get.result c.args.name.now (view c.args.json.now) c.get.ensures
