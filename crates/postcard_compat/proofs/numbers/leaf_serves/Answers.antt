-- The case of two types of integers, by `varint_serves`.
use Rattle.std.proofs.Common.{subst, sym}
use Rattle.postcard_schema.specs.Meaning.{leaf}
use Rattle.postcard_compat.specs.Parts.{integer_leaf}
use Rattle.postcard_compat.specs.Serving.{Serves}
use Rattle.postcard_compat.proofs.numbers.leaf_serves.Goals as goal

pub returns-in-Integer-Integer : goal.returns-in-Integer-Integer
returns-in-Integer-Integer c = λ yes.
    subst (λ n. Serves (leaf n) (leaf c.args.old)) (sym c.in-Integer-Integer.is-1)
    (subst (λ o. Serves (integer_leaf c.in-Integer-Integer.new) (leaf o)) (sym c.in-Integer-Integer.is-0) (c.varint_serves.ensures yes))
