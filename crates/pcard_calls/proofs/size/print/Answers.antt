-- The text printed is that of the type's least size and its greatest, or of the parts that have no greatest.
use Rattle.std.proofs.Common.{ap, ◌∙◌, map}
use Rattle.postcard_schema.specs.Paths.{plain_path}
use Rattle.pcard_calls.proofs.SizeLemmas.{bounded_printed, endless_printed}
use Rattle.pcard_calls.proofs.size.print.Goals as goal

pub returns-in_default-clause-printed : goal.returns-in_default-clause-printed
returns-in_default-clause-printed g c =
    endless_printed c.args.expression.now c.in_ok-schema.schema c.min_size-least.result c.max_size.result _ _ c.in_ok-schema.ensures.spelled c.min_size-least.ensures
    c.max_size.ensures.bounded c.max_size.ensures.greatest _ c.in_default.is (ap (map plain_path) c.deref.ensures.value ∙ c.in_ok-parts.ensures.listed)
    c.in_ok-print_endless.ensures

pub returns-clause-printed : goal.returns-clause-printed
returns-clause-printed g c =
    bounded_printed c.args.expression.now c.in_ok-schema.schema c.min_size-least.result c.max_size.result _ _ c.in_ok-schema.ensures.spelled c.min_size-least.ensures
    c.max_size.ensures.bounded c.max_size.ensures.greatest c.in-Some.greatest c.in-Some.is c.in_ok-print_bounded.ensures
