-- A type has the messages of its flattened type. So what is known of the flattened types holds of the types.
use Rattle.postcard_schema.specs.Meaning.{type_of}
use Rattle.postcard_compat.proofs.Verdicts.{relates_of}
use Rattle.postcard_compat.proofs.comparison.compare.Goals as goal

pub verdict_of-requires : goal.verdict_of-requires
verdict_of-requires c =
    relates_of (type_of c.args.new.now) (type_of c.in_ok-flat_new.flat_new) (type_of c.in_ok-flat_old.flat_old) (type_of c.args.old.now)
    c.in_ok-flat_new.ensures.1 c.in_ok-flat_new.ensures.0 c.in_ok-flat_old.ensures.0 c.in_ok-relation.relation c.in_ok-relation.ensures
