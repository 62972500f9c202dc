-- How bytes spell numbers (wire format 1.0, chapters "varint encoded integers" and "signed integer
-- encoding").
use Rattle.std.specs.Prelude.{◌≡◌, ℕ, zero, suc, ◌+◌, ◌*◌, ◌/◌, ◌%◌, ◌<◌, ◌≤◌, ◌^◌, ◌-◌, nat_lt, if◌then◌else◌, List, [], ◌∷◌, ◌++◌, length, ℤ, pos, negsuc, neg_ℤ, ◌≤ℤ◌, ◌<ℤ◌}

-- The greatest number of bytes of a varint of w bits, at seven bits a byte (wire format, varint,
-- "maximum encoded length"): 3, 5, 10 and 19 for 16, 32, 64 and 128 bits.
abbrev pub max_digits : ℕ → ℕ
max_digits w = (w + 6) / 7

-- The number that bytes spell in base 128, lowest digit first: the sum of (byte mod 128) * 128 ^ place.
-- Seven bits of each byte are data, the least significant group first (wire format, varint).
abbrev pub number : List ℕ → ℕ
number [] = 0
number (b ∷ bs) = b % 128 + 128 * number bs

-- There is at least one byte. All but the last are at least 128, and the last is below 128: the high
-- bit of a byte says that another follows (wire format, varint).
abbrev pub AreDigits : List ℕ → Type 0
AreDigits [] = ⊥
AreDigits (b ∷ []) = b < 128
AreDigits (b ∷ c ∷ bs) = (128 ≤ b) × (b < 256) × AreDigits (c ∷ bs)

-- The bytes p spell the number n as a varint of w bits, padded spellings included. That n itself is
-- below 2 ^ w is said of the tree (`WellFormed`), so that no table of greatest last bytes is
-- needed.
pub record SpellsNum (w n : ℕ) (p : List ℕ) : Type 0 where
  pub digits : AreDigits p
  pub count : length p ≤ max_digits w
  pub value : number p ≡ n

-- The spelling of n in at most k + 1 bytes, lowest digit first, with no zero digit at its end.
abbrev pub digits_within : ℕ → ℕ → List ℕ
digits_within zero n = n ∷ []
digits_within (suc k) n = if nat_lt n 128 then n ∷ [] else (n % 128 + 128) ∷ digits_within k (n / 128)

-- The shortest spelling of n, a number of at most 128 bits (wire format, varint, canonical form).
unfoldable pub digits : ℕ → List ℕ
digits n = digits_within 18 n

-- The zigzag encoding of a signed number: 2 z for z at least 0, and -2 z - 1 for z below 0, where
-- `negsuc n` is -n - 1 (wire format, signed integers, "zigzag").
abbrev pub zigzag : ℤ → ℕ
zigzag (pos n) = 2 * n
zigzag (negsuc n) = 2 * n + 1

-- The signed number z fits in w bits in two's complement.
abbrev pub InRange : ℕ → ℤ → Type 0
InRange w z = (neg_ℤ (pos (2 ^ (w - 1))) ≤ℤ z) × (z <ℤ pos (2 ^ (w - 1)))

-- Each of the bytes is at least 128: they may begin a number, and don't end it.
abbrev pub GoesOn : List ℕ → Type 0
GoesOn [] = Unit {0}
GoesOn (b ∷ bs) = (128 ≤ b) × (b < 256) × GoesOn bs

-- The bytes p have the full length of a number of w bits, all but the last are at least 128, and
-- they spell no number of w bits.
pub record SpellsNone (w : ℕ) (p : List ℕ) : Type 0 where
  pub front : List ℕ
  pub last : ℕ
  pub is : p ≡ front ++ last ∷ []
  pub high : GoesOn front
  pub full : length p ≡ max_digits w
  pub none : (n : ℕ) → n < 2 ^ w → SpellsNum w n p → ⊥
