-- The result is the greatest size of the type's limit, so the laws of the limit hold of it.
use Rattle.std.proofs.Common.{sym, subst}
use Rattle.postcard_schema.specs.Meaning.{type_of, reads}
use Rattle.postcard_max.specs.Limits.{AreBounded, IsReached}
use Rattle.postcard_schema_size.proofs.Holds.{bounded, is_reached}
use Rattle.postcard_schema_size.proofs.max_size.Goals as goal

pub returns-clause-bounded : goal.returns-clause-bounded
returns-clause-bounded c = let t = type_of c.args.schema.now in subst (λ n. AreBounded n (reads t)) (sym c.sizes_of.ensures.greatest) (bounded t)

pub returns-clause-is_reached : goal.returns-clause-is_reached
returns-clause-is_reached c = let t = type_of c.args.schema.now in λ may. subst (λ n. IsReached n (reads t)) (sym c.sizes_of.ensures.greatest) (is_reached t may)
