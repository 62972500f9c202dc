-- The members of an object as the program sees it are those of the JSON.
use Rattle.std.proofs.Common.{◌≡◌, sym, ◌∙◌, true≢false}
use Rattle.std.proofs.lemmas.Bool.Decides.{Decides-eqb}
use Rattle.serde_json.specs.Data.{object}
use Rattle.serde_json.specs.View.{view, members_view}
use Rattle.serde_json.proofs.Views.{members_len-members_view}
use Rattle.postcard_value_json_read.proofs.Forms.{object_is}
use Rattle.postcard_value_json_read.proofs.find.has_members.Goals as goal

pub returns-in-Some-clause-long : goal.returns-in-Some-clause-long
returns-in-Some-clause-long c = λ yes.
    let d = view c.args.json.now in
    let es = c.in-Some.members.now.entries in
    let form : d ≡ object (members_view es) = object_is d (members_view es) (rw c.in-Some.is at c.as_object.ensures) in
    rw form (members_len-members_view es ∙ sym c.len.ensures.len ∙ (Decides-eqb c.len.result c.args.count).0 yes)

pub returns-in-Some-clause-other : goal.returns-in-Some-clause-other
returns-in-Some-clause-other c = λ no h.
    let d = view c.args.json.now in
    let es = c.in-Some.members.now.entries in
    let form : d ≡ object (members_view es) = object_is d (members_view es) (rw c.in-Some.is at c.as_object.ensures) in
    let long = rw form at h in
    true≢false (sym ((Decides-eqb c.len.result c.args.count).1 (c.len.ensures.len ∙ sym (members_len-members_view es) ∙ long)) ∙ no)
