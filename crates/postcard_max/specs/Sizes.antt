-- Greatest sizes of encodings, in bytes, and their arithmetic: a size is a number of 64 bits, or
-- none if there is no such number.
use Rattle.std.specs.Prelude.{ℕ, ◌+◌, ◌*◌, ◌^◌, nat_lt, max, if◌then◌else◌, length, List, [], ◌∷◌, Option, Some, None}
use Rattle.postcard_wire.specs.Number.{digits_within}

-- The number, or none if it takes more than 64 bits.
abbrev pub limited : ℕ → Option ℕ
limited n = if nat_lt n (2 ^ 64) then Some n else None

-- The sum of two sizes, or none if one of them is none or the sum takes more than 64 bits.
abbrev pub sum_of : Option ℕ → Option ℕ → Option ℕ
sum_of None b = None
sum_of (Some a) None = None
sum_of (Some a) (Some b) = limited (a + b)

-- n times a size, or none if the size is none or the product takes more than 64 bits.
abbrev pub times : ℕ → Option ℕ → Option ℕ
times n None = None
times n (Some a) = limited (n * a)

-- The greater of two sizes, or none if one of them is none.
abbrev pub greater_of : Option ℕ → Option ℕ → Option ℕ
greater_of None b = None
greater_of (Some a) None = None
greater_of (Some a) (Some b) = Some (max a b)

-- The sum of sizes, or none if one of them is none or the sum takes more than 64 bits.
abbrev pub sum_all : List (Option ℕ) → Option ℕ
sum_all [] = Some 0
sum_all (g ∷ gs) = sum_of g (sum_all gs)

-- The number of bytes of a number's varint, that is of its shortest digits. It equals
-- `length (digits n)` and, unlike that, computes in a user's proof.
abbrev pub varint_len : ℕ → ℕ
varint_len n = length (digits_within 18 n)

-- The number of bytes of an index's varint, or none if there is no index.
abbrev pub index_len : Option ℕ → Option ℕ
index_len None = None
index_len (Some i) = Some (varint_len i)
