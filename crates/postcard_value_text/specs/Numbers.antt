-- Which texts denote a number of an integer type, by itself and by its bits: a literal of Rust, and perhaps a sign before it.
use Rattle.std.specs.Prelude.{◌≡◌, ℕ, ◌<◌, ◌^◌, ℤ, pos, neg_ℤ, Bool, true, false, cond, List}
use Rattle.std.specs.Str.Parse.{starts_with_minus, without_leading_plus, without_leading_sign}
use Rattle.postcard_schema.specs.declared.leaf.Integer.{Integer}
use Rattle.postcard_schema.specs.Leaves.{size_of}
use Rattle.postcard_schema_text.specs.Literals.{IsLiteral}
use Rattle.postcard_schema_text.specs.Text.{Led}
use Rattle.postcard_value.specs.Numbers.{IsBitsOf}

-- The text is the number n, and a `+` may be before it.
abbrev pub IsUnsigned : ℕ → List ℕ → Type 0
IsUnsigned n text = IsLiteral n (without_leading_plus text)

-- The text is the number z, and a `-` or a `+` may be before it.
abbrev pub IsSigned : ℤ → List ℕ → Type 0
IsSigned z text = (n : ℕ) × IsLiteral n (without_leading_sign text) × (z ≡ cond (starts_with_minus text) (neg_ℤ (pos n)) (pos n))

-- The text is the number of the type with these bits, which are in two's complement if the first argument is true.
abbrev pub HasBits : Bool → Integer → ℕ → List ℕ → Type 0
HasBits true integer n text = (z : ℤ) × IsBitsOf integer z n × IsSigned z text
HasBits false integer n text = (n < 256 ^ size_of integer) × IsUnsigned n text

-- The same with blanks before the number, or none.
abbrev pub SpellsBits : Bool → Integer → ℕ → List ℕ → Type 0
SpellsBits signed integer n text = Led (HasBits signed integer n) text
