-- The type that `both` found serves the old type, and the new type or its first parts. So the new type never misreads.
use Rattle.postcard_schema.specs.Meaning.{type_of}
use Rattle.postcard_compat.proofs.Verdicts.{front_never_misreads, never_of_both}
use Rattle.postcard_compat.proofs.comparison.never_misreads.Goals as goal

pub returns-in-Some : goal.returns-in-Some
returns-in-Some c = λ yes. never_of_both (type_of c.args.new.now) (type_of c.args.old.now) _ _ c.in-Some.is c.in_ok-found.ensures

pub returns : goal.returns
returns c = λ yes.
    front_never_misreads (type_of c.in_ok-joined.joined) (type_of c.args.new.now) (type_of c.args.old.now) (c.serves.ensures c.if-not-serves.false)
    (c.serves_front.ensures yes)
