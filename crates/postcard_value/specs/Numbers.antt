-- Numbers: the trees of those with given bits, and the numbers that bits are in two's complement.
use Rattle.std.specs.Prelude.{◌≡◌, ℕ, suc, ◌-◌, ◌*◌, ◌%◌, ◌^◌, ◌==◌, nat_lt, Bool, if◌then◌else◌, ℤ, pos, negsuc, List, [], ◌∷◌, map}
use Rattle.postcard_wire.specs.Number.{InRange}
use Rattle.postcard_wire.specs.Tree.{Tree, Trees, Byte, Num, Int, Then, trees}
use Rattle.postcard_wire.specs.Tree as nodes
use Rattle.postcard_shape.specs.Base256.{Order, little, big}
use Rattle.postcard_fixint.specs.Fixed.{twos_complement}
use Rattle.postcard_schema.specs.declared.leaf.ByteOrder.{ByteOrder}
use Rattle.postcard_schema.specs.declared.leaf.ByteOrder.TheVariants.{Little, Big}
use Rattle.postcard_schema.specs.declared.leaf.Integer.{Integer}
use Rattle.postcard_schema.specs.Leaves.{is_signed, size_of}

-- The signed number of which n, below 256 ^ k, is the two's complement in k bytes, where `negsuc n` is -n - 1.
abbrev pub signed_of : ℕ → ℕ → ℤ
signed_of k n = if nat_lt (2 * n) (256 ^ k) then pos n else negsuc (256 ^ k - suc n)

-- The bits n are those of the signed number z of the type: its two's complement.
abbrev pub IsBitsOf : Integer → ℤ → ℕ → Type 0
IsBitsOf integer z n = InRange (8 * size_of integer) z × (n ≡ twos_complement (size_of integer) z)

-- The tree of a number of k bytes with the bits n, where n is below 256 ^ k. It is a byte if k is 1, and else a varint of a number with or
-- without a sign.
abbrev pub number_tree : Bool → ℕ → ℕ → Tree
number_tree signed k n = if k == 1 then Byte n else if signed then Int (8 * k) (signed_of k n) else Num (8 * k) n

-- The tree of the number of the type with the bits n. Bits above the type's width are left out.
abbrev pub integer_tree : Integer → ℕ → Tree
integer_tree integer n = number_tree (is_signed integer) (size_of integer) (n % 256 ^ size_of integer)

-- The tree is that of the number of the type with these bits.
abbrev pub IsInteger : Integer → Tree → ℕ → Type 0
IsInteger integer t n = t ≡ integer_tree integer n

-- The order of bytes in base 256.
abbrev pub order_of : ByteOrder → Order
order_of Little = little
order_of Big = big

-- The tree of a number of k bytes that is n, or n modulo 256 ^ k: the array of the bytes, in this order.
abbrev pub fixed_tree : ByteOrder → ℕ → ℕ → Tree
fixed_tree order k n = nodes.Group (trees (map Byte ((order_of order).spell k n)))

-- The bytes of a row of trees.
abbrev pub bytes_of : Trees → List ℕ
bytes_of (Then (Byte b) ts) = b ∷ bytes_of ts
bytes_of ts = []
