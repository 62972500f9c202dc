-- Which texts denote the bits of a float.
use Rattle.std.specs.Prelude.{◌≡◌, ℕ, ◌*◌, ◌<◌, nat_eq, Bool, true, false, ◌||◌, ◌⊎◌, List, [], ◌∷◌, ◌++◌, Result, Some, codes}
use Rattle.std.specs.Fmt.{WritesOnOk}
use Rattle.std.specs.declared.fmt.Error.{Error}
use Rattle.std.specs.declared.fmt.Formatter.{Formatter}
use Rattle.std.specs.Float.{Float, Format, binary32, binary64}
use Rattle.std.specs.Float.Ieee.{is_nan, of_bits, to_bits, top}
use Rattle.std.specs.Float.Parse.{parse_float}
use Rattle.std.specs.Str.Parse.{IsNumeral, digits_value}
use Rattle.postcard_schema.specs.declared.leaf.Float.{Float as FloatType}
use Rattle.postcard_schema.specs.declared.leaf.Float.TheVariants.{F32, F64}
use Rattle.postcard_schema_text.specs.Text.{is_of_word, Led, Then, TakesPhrase, IsSign, IsWord}

-- The format of a type's floats, as IEEE 754 has it.
abbrev pub format_of : FloatType → Format
format_of F32 = binary32
format_of F64 = binary64

-- Whether a byte may be part of a float's text: a letter or a digit of ASCII, `_`, `+`, `-` or `.`. The bits of an unusual NaN in
-- parentheses are not counted here.
abbrev pub is_of_float : ℕ → Bool
is_of_float b = is_of_word b || (nat_eq b 43 || (nat_eq b 45 || nat_eq b 46))

-- The text is a number in decimal, perhaps with a point and an exponent, or `inf`, `infinity` or `nan`, as std's `parse` reads them. The
-- bits are those of the float nearest to it.
abbrev pub IsFloatWord : Format → ℕ → List ℕ → Type 0
IsFloatWord f bits text = (x : Float) × (parse_float f text ≡ Some x) × (bits ≡ to_bits f x)

-- The bits are those of a NaN. In an `f32`, `7FC00000` are those of `nan`.
abbrev pub AreNan : Format → ℕ → Type 0
AreNan f bits = (bits < 2 * top f) × (is_nan (of_bits f bits) ≡ true)

-- The text is `0x` and the number n in hexadecimal digits of either case, at least one.
abbrev pub IsHexadecimal : ℕ → List ℕ → Type 0
IsHexadecimal n text = (digits : List ℕ) × IsNumeral 16 digits × (n ≡ digits_value 16 digits) × IsWord (codes "0x" ++ digits) text

-- The text is `nan` and its bits in parentheses, as `nan(0x7fc00001)`.
abbrev pub IsNanText : Format → ℕ → List ℕ → Type 0
IsNanText f bits text = AreNan f bits × Then (IsWord (codes "nan")) (Then (IsSign 40) (Then (IsHexadecimal bits) (IsSign 41))) text

-- The text denotes the float with these bits.
abbrev pub SpellsFloat : Format → ℕ → List ℕ → Type 0
SpellsFloat f bits text = Led (IsFloatWord f bits) text ⊎ IsNanText f bits text

-- The text is empty, or its first byte may not be part of a number.
abbrev pub EndsNumber : List ℕ → Type 0
EndsNumber [] = Unit {0}
EndsNumber (b ∷ text) = is_of_float b ≡ false

-- The text doesn't go on with a number, and no `(` comes next.
abbrev pub EndsFloat : List ℕ → Type 0
EndsFloat text = EndsNumber text × ((after : List ℕ) → TakesPhrase (IsSign 40) text after → ⊥)

-- If `old` is plain and r is `Ok`, a text that denotes the float with these bits was written.
abbrev pub ShowsFloat : {W : Type 0} → Format → ℕ → (W → List ℕ → W → Type 0) → Formatter W → Result (Unit {0}) Error → Formatter W → Type 0
ShowsFloat f bits took old r new = (shown : List ℕ) × SpellsFloat f bits shown × WritesOnOk took old r shown new
