-- The bits that are read are those of the number in the tree, for each width and sign.
use Rattle.std.proofs.Common.{◌∙◌, refl}
use Rattle.std.specs.Int.{w16, w32, w64, w128}
use Rattle.postcard_schema.specs.declared.leaf.Integer.TheVariants.{U16, U32, U64, U128, I16, I32, I64, I128}
use Rattle.postcard_value.proofs.Nodes.{num_read, int_read}
use Rattle.postcard_value.proofs.numbers.read_integer.Goals as goal

pub returns-in_ok-deserialize_u16-in-U16 : goal.returns-in_ok-deserialize_u16-in-U16
returns-in_ok-deserialize_u16-in-U16 g c =
    rw (c.in-U16.is, c.from-in-U16.ensures) (num_read U16 16 (λ n. refl) c.in_ok-deserialize_u16-in-U16.ensures.reads)

pub returns-in_ok-deserialize_u32-in-U32 : goal.returns-in_ok-deserialize_u32-in-U32
returns-in_ok-deserialize_u32-in-U32 g c =
    rw (c.in-U32.is, c.from-in-U32.ensures) (num_read U32 32 (λ n. refl) c.in_ok-deserialize_u32-in-U32.ensures.reads)

pub returns-in_ok-deserialize_u64-in-U64 : goal.returns-in_ok-deserialize_u64-in-U64
returns-in_ok-deserialize_u64-in-U64 g c =
    rw (c.in-U64.is, c.from-in-U64.ensures) (num_read U64 64 (λ n. refl) c.in_ok-deserialize_u64-in-U64.ensures.reads)

pub returns-in_ok-deserialize_u128-in-U128 : goal.returns-in_ok-deserialize_u128-in-U128
returns-in_ok-deserialize_u128-in-U128 g c =
    rw c.in-U128.is (num_read U128 128 (λ n. refl) c.in_ok-deserialize_u128-in-U128.ensures.reads)

pub returns-in_ok-deserialize_i16-in-I16 : goal.returns-in_ok-deserialize_i16-in-I16
returns-in_ok-deserialize_i16-in-I16 g c =
    let is = c.from-in-I16.ensures ∙ c.cast_unsigned.ensures in
    rw c.in-I16.is (int_read I16 w16 refl refl refl (λ n. refl) is c.in_ok-deserialize_i16-in-I16.ensures.reads)

pub returns-in_ok-deserialize_i32-in-I32 : goal.returns-in_ok-deserialize_i32-in-I32
returns-in_ok-deserialize_i32-in-I32 g c =
    let is = c.from-in-I32.ensures ∙ c.cast_unsigned-in-I32.ensures in
    rw c.in-I32.is (int_read I32 w32 refl refl refl (λ n. refl) is c.in_ok-deserialize_i32-in-I32.ensures.reads)

pub returns-in_ok-deserialize_i64-in-I64 : goal.returns-in_ok-deserialize_i64-in-I64
returns-in_ok-deserialize_i64-in-I64 g c =
    let is = c.from-in-I64.ensures ∙ c.cast_unsigned-in-I64.ensures in
    rw c.in-I64.is (int_read I64 w64 refl refl refl (λ n. refl) is c.in_ok-deserialize_i64-in-I64.ensures.reads)

pub returns-in_ok-deserialize_i128-in-I128 : goal.returns-in_ok-deserialize_i128-in-I128
returns-in_ok-deserialize_i128-in-I128 g c =
    rw c.in-I128.is (int_read I128 w128 refl refl refl (λ n. refl) c.cast_unsigned-in-I128.ensures c.in_ok-deserialize_i128-in-I128.ensures.reads)
