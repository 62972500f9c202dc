-- If P holds of bytes, and of varints of each width with and without a sign, it holds of each type of integers.
use Rattle.std.proofs.Common.{ℕ, ◌≤◌, inl, inr, refl, arith}
use Rattle.postcard_wire.specs.Number.{max_digits}
use Rattle.postcard_wire.specs.Tree.{Tree, IsWidth}
use Rattle.postcard_wire.specs.Reading.{IsByte, IsNum, IsInt}
use Rattle.postcard_schema.specs.Leaves.{size_of}
use Rattle.postcard_schema.specs.Meaning.{integer_reads}
use Rattle.postcard_schema.specs.declared.leaf.Integer.{Integer}
use Rattle.postcard_schema.specs.declared.leaf.Integer.TheVariants.{U8, U16, U32, U64, U128, I8, I16, I32, I64, I128}
use Rattle.postcard_schema_size.specs.Sizes.{integer_greatest}

module _ (P : ℕ → (Tree → Type 0) → Type 0) (byte : P 1 IsByte) (num : (w : ℕ) → IsWidth w → P (max_digits w) (IsNum w)) (int : (w : ℕ) → IsWidth w → P (max_digits w) (IsInt w)) where
  pub each_integer : (i : Integer) → P (integer_greatest i) (integer_reads i)
  each_integer U8 = byte
  each_integer U16 = num 16 (inl refl)
  each_integer U32 = num 32 (inr (inl refl))
  each_integer U64 = num 64 (inr (inr (inl refl)))
  each_integer U128 = num 128 (inr (inr (inr refl)))
  each_integer I8 = byte
  each_integer I16 = int 16 (inl refl)
  each_integer I32 = int 32 (inr (inl refl))
  each_integer I64 = int 64 (inr (inr (inl refl)))
  each_integer I128 = int 128 (inr (inr (inr refl)))

-- A number of a fixed width has at most 16 bytes.
pub size_few : (i : Integer) → size_of i ≤ 16
size_few i = grind arith
