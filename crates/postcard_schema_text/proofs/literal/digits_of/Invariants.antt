-- The number so far and the remaining digits denote the number of all digits.
use Rattle.std.proofs.Common.{◌≡◌, drop}
use Rattle.std.specs.Str.Parse.{digits_value, digits_value_after}
use Rattle.postcard_schema_text.specs.Literals.{without_underscores}
use Rattle.postcard_schema_text.proofs.literal.digits_of.Given as goal

abbrev pub invariant-loop-byte : goal.invariant-loop-byte
invariant-loop-byte l = digits_value_after l.radix l.number (without_underscores (drop l.byte-index l.digits)) ≡ digits_value l.radix (without_underscores l.digits)
