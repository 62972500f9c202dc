-- The number that the JSON is has bits of the type if and only if it is in the type's range.
use Rattle.std.proofs.Common.{◌≡◌, ℕ, ℤ, ◌<◌, ◌^◌, ◌∙◌, true, false, Option, Some, None, sym, subst, arith}
use Rattle.std.specs.Prelude.{IfSome, IfNone, MatchOption}
use Rattle.std.specs.Int.{w128}
use Rattle.std.proofs.lemmas.Int.{to_z-of_z}
use Rattle.postcard_schema.specs.Leaves.{is_signed, size_of}
use Rattle.postcard_schema.specs.declared.leaf.Integer.{Integer}
use Rattle.postcard_value.specs.Numbers.{IsBitsOf}
use Rattle.postcard_value.specs.NumberLemmas.{at_most_128, fits_128}
use Rattle.serde_json.specs.Data.{Data}
use Rattle.serde_json.specs.View.{view}
use Rattle.postcard_value_json_read.specs.Reading.{IsSignedJson, IsBitsJson}
use Rattle.postcard_value_json_read.proofs.Leaves.{signed_one, unsigned_one}
use Rattle.postcard_value_json_read.proofs.leaf.find_bits.Goals as goal

-- The bits of the number that the JSON is are those that it has.
found : (i : Integer) (z : ℤ) (d : Data) (r : Option ℕ) → IsSignedJson z d → IfSome r (IsBitsOf i z) → IfNone r ((n : ℕ) → IsBitsOf i z n → ⊥)
    → MatchOption r ((n : ℕ) → IsBitsJson true i n d → ⊥) (λ n. IsBitsJson true i n d)
found i z d None h some none = λ n (y, is, g). none n (subst (λ x. IsBitsOf i x n) (signed_one y z d g h) is)
found i z d (Some n) h some none = (z, some, h)

pub returns-in-Some : goal.returns-in-Some
returns-in-Some c =
    let i = c.args.integer in
    let z = c.in-Some.z in
    let same = to_z-of_z w128 z c.in-Some.ensures.fits in
    let signed : is_signed i ≡ true = sym c.is_signed.ensures ∙ c.if-is_signed.true in
    rw signed (found i z (view c.args.json.now) c.bits_of.result c.in-Some.ensures.found (rw same at c.bits_of.ensures.bits) (rw same at c.bits_of.ensures.none))

pub returns-in-None : goal.returns-in-None
returns-in-None c =
    let signed : is_signed c.args.integer ≡ true = sym c.is_signed.ensures ∙ c.if-is_signed.true in
    rw signed (λ n (z, is, h). c.in-None.ensures.found z (fits_128 c.args.integer z n is) h)

pub returns-then-are_bits : goal.returns-then-are_bits
returns-then-are_bits c =
    let unsigned : is_signed c.args.integer ≡ false = sym c.is_signed.ensures ∙ c.if-is_signed.false in
    rw unsigned (c.are_bits.ensures.within c.if-are_bits.true, c.in-Some-unsigned.ensures)

pub returns-else-are_bits : goal.returns-else-are_bits
returns-else-are_bits c =
    let unsigned : is_signed c.args.integer ≡ false = sym c.is_signed.ensures ∙ c.if-is_signed.false in
    rw unsigned (λ m (low, h).
    c.are_bits.ensures.beyond c.if-are_bits.false (subst (λ k. k < 256 ^ size_of c.args.integer) (unsigned_one m c.in-Some-unsigned.n (view c.args.json.now) h c.in-Some-unsigned.ensures) low))

pub returns-in-None-unsigned : goal.returns-in-None-unsigned
returns-in-None-unsigned c =
    let unsigned : is_signed c.args.integer ≡ false = sym c.is_signed.ensures ∙ c.if-is_signed.false in
    rw unsigned (λ m (low, h). let few = at_most_128 c.args.integer in c.in-None-unsigned.ensures m (omega (arith, low, few)) h)
