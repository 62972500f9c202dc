-- A word without bits of the type denotes no number of the type, for both kinds of types.
use Rattle.std.proofs.Common.{◌≡◌, ◌∙◌, true, false, sym}
use Rattle.postcard_schema.specs.Leaves.{is_signed}
use Rattle.postcard_value_text.proofs.number.bits_in.Goals as goal

pub returns-then-is_signed-clause-none : goal.returns-then-is_signed-clause-none
returns-then-is_signed-clause-none c =
    let signed : is_signed c.args.integer ≡ true = sym c.is_signed.ensures ∙ c.if-is_signed.true in
    rw signed c.signed_bits.ensures.none

pub returns-else-is_signed-clause-none : goal.returns-else-is_signed-clause-none
returns-else-is_signed-clause-none c =
    let unsigned : is_signed c.args.integer ≡ false = sym c.is_signed.ensures ∙ c.if-is_signed.false in
    rw unsigned c.unsigned_bits.ensures.none
