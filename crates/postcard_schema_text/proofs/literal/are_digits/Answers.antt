-- `are_digits` is right: the bytes are digits without their `_`, and at least one is left.
use Rattle.std.proofs.Common.{not, sym, ap, ◌∙◌, true≢false}
use Rattle.postcard_schema_text.specs.LiteralLemmas.{of_digits}
use Rattle.postcard_schema_text.proofs.Literals.{digits_left, none_left, some_left}
use Rattle.postcard_schema_text.proofs.literal.are_digits.Goals as goal

pub returns-then-not-are_underscores : goal.returns-then-not-are_underscores
returns-then-not-are_underscores c =
    let bytes = c.args.bytes.now in
    let radix = c.args.radix in (
      λ e. (some_left bytes (λ all. true≢false (sym (c.are_underscores.ensures.1 all) ∙ c.if-not-are_underscores.true)), digits_left radix bytes (c.are_of_digits.ensures.0 e)),
      λ numeral. c.are_of_digits.ensures.1 (of_digits radix bytes numeral.1),
    )

pub returns-else-not-are_underscores : goal.returns-else-not-are_underscores
returns-else-not-are_underscores c =
    let all = c.are_underscores.ensures.0 c.if-not-are_underscores.false in (
      λ e. absurd (true≢false (sym e ∙ ap not c.if-not-are_underscores.false)),
      λ numeral. absurd (none_left c.args.bytes.now all numeral.0),
    )
