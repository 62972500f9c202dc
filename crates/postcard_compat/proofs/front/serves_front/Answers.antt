-- A type and the group of its row have the same messages, so it is enough to compare rows.
use Rattle.postcard_schema.specs.Meaning.{group, type_of, types_of}
use Rattle.postcard_compat.specs.Parts.{parts_of}
use Rattle.postcard_compat.proofs.Fronts.{front_through, group_front}
use Rattle.postcard_compat.proofs.front.serves_front.Goals as goal

pub returns : goal.returns
returns c = λ yes.
    let os = types_of (parts_of c.of.result) in
    let ns = types_of (parts_of c.of-2.result) in
    front_through (type_of c.args.new.now) (group ns) (group os) (type_of c.args.old.now)
    c.of-2.ensures.serves (group_front ns os (c.parts_begin.ensures yes)) c.of.ensures.is_served
