-- A numeral that std's `parse` reads is one of the type's numerals, and what it refuses is none.
use Rattle.std.specs.contracts.prelude.U8FromStr.TheImpl as u8_impl
use Rattle.std.specs.contracts.prelude.U16FromStr.TheImpl as u16_impl
use Rattle.std.specs.contracts.prelude.U32FromStr.TheImpl as u32_impl
use Rattle.std.specs.contracts.prelude.U64FromStr.TheImpl as u64_impl
use Rattle.std.specs.contracts.prelude.U128FromStr.TheImpl as u128_impl
use Rattle.std.specs.contracts.prelude.I8FromStr.TheImpl as i8_impl
use Rattle.std.specs.contracts.prelude.I16FromStr.TheImpl as i16_impl
use Rattle.std.specs.contracts.prelude.I32FromStr.TheImpl as i32_impl
use Rattle.std.specs.contracts.prelude.I64FromStr.TheImpl as i64_impl
use Rattle.std.specs.contracts.prelude.I128FromStr.TheImpl as i128_impl
use Rattle.std.specs.contracts.prelude.BoolFromStr.TheImpl as bool_impl
use Rattle.std.specs.contracts.prelude.CharFromStr.TheImpl as char_impl
use Rattle.std.proofs.Common.{inl, inr, refl}
use Rattle.std.specs.Int.{w8, w16, w32, w64, w128}
use Rattle.postcard_shape.specs.Leaves.{byte, signed_byte, num, int, boolean, character}
use Rattle.pcard_calls.specs.Named.{numeral, numeral_text, signed_numeral, signed_text, truth, truth_text, one_character, character_text}
use Rattle.pcard_message.specs.declared.failure.Failure.TheVariants.{BadValue}
use Rattle.pcard_calls.proofs.NamedLemmas.{list_said, scalar_said}
use Rattle.pcard_calls.proofs.convert.convert.Goals as goal

pub returns-in-U8 : goal.returns-in-U8
returns-in-U8 g c =
    rw c.in-U8.is (scalar_said byte u8_impl.ghosts.from_str_gives (numeral 8) numeral_text _ _ _ _ (λ word v h. h.0) (λ word e h. (BadValue, h.0)) c.convert_scalar.ensures)

pub returns-in-U16 : goal.returns-in-U16
returns-in-U16 g c =
    rw c.in-U16.is (scalar_said (num 16 (inl refl)) u16_impl.ghosts.from_str_gives (numeral 16) numeral_text _ _ _ _ (λ word v h. h.0) (λ word e h. (BadValue, h.0)) c.convert_scalar-in-U16.ensures)

pub returns-in-U32 : goal.returns-in-U32
returns-in-U32 g c =
    rw c.in-U32.is (scalar_said (num 32 (inr (inl refl))) u32_impl.ghosts.from_str_gives (numeral 32) numeral_text _ _ _ _ (λ word v h. h.0) (λ word e h. (BadValue, h.0)) c.convert_scalar-in-U32.ensures)

pub returns-in-U64 : goal.returns-in-U64
returns-in-U64 g c =
    rw c.in-U64.is (scalar_said (num 64 (inr (inr (inl refl)))) u64_impl.ghosts.from_str_gives (numeral 64) numeral_text _ _ _ _ (λ word v h. h.0) (λ word e h. (BadValue, h.0)) c.convert_scalar-in-U64.ensures)

pub returns-in-U128 : goal.returns-in-U128
returns-in-U128 g c =
    rw c.in-U128.is (scalar_said (num 128 (inr (inr (inr refl)))) u128_impl.ghosts.from_str_gives (numeral 128) numeral_text _ _ _ _ (λ word v h. h.0) (λ word e h. (BadValue, h.0)) c.convert_scalar-in-U128.ensures)

pub returns-in-I8 : goal.returns-in-I8
returns-in-I8 g c =
    rw c.in-I8.is (scalar_said signed_byte i8_impl.ghosts.from_str_gives (signed_numeral w8) signed_text _ _ _ _ (λ word v h. h.0) (λ word e h. (BadValue, h.0)) c.convert_scalar-in-I8.ensures)

pub returns-in-I16 : goal.returns-in-I16
returns-in-I16 g c =
    rw c.in-I16.is (scalar_said (int 16 (inl refl)) i16_impl.ghosts.from_str_gives (signed_numeral w16) signed_text _ _ _ _ (λ word v h. h.0) (λ word e h. (BadValue, h.0)) c.convert_scalar-in-I16.ensures)

pub returns-in-I32 : goal.returns-in-I32
returns-in-I32 g c =
    rw c.in-I32.is (scalar_said (int 32 (inr (inl refl))) i32_impl.ghosts.from_str_gives (signed_numeral w32) signed_text _ _ _ _ (λ word v h. h.0) (λ word e h. (BadValue, h.0)) c.convert_scalar-in-I32.ensures)

pub returns-in-I64 : goal.returns-in-I64
returns-in-I64 g c =
    rw c.in-I64.is (scalar_said (int 64 (inr (inr (inl refl)))) i64_impl.ghosts.from_str_gives (signed_numeral w64) signed_text _ _ _ _ (λ word v h. h.0) (λ word e h. (BadValue, h.0)) c.convert_scalar-in-I64.ensures)

pub returns-in-I128 : goal.returns-in-I128
returns-in-I128 g c =
    rw c.in-I128.is (scalar_said (int 128 (inr (inr (inr refl)))) i128_impl.ghosts.from_str_gives (signed_numeral w128) signed_text _ _ _ _ (λ word v h. h.0) (λ word e h. (BadValue, h.0)) c.convert_scalar-in-I128.ensures)

pub returns-in-Bool : goal.returns-in-Bool
returns-in-Bool g c =
    rw c.in-Bool.is (scalar_said boolean bool_impl.ghosts.from_str_gives truth truth_text _ _ _ _ (λ word v h. h) (λ word e h. (BadValue, h)) c.convert_scalar-in-Bool.ensures)

pub returns-in-Char : goal.returns-in-Char
returns-in-Char g c =
    rw c.in-Char.is (scalar_said character char_impl.ghosts.from_str_gives one_character character_text _ _ _ _ (λ word v h. h) (λ word e h. (BadValue, h)) c.convert_scalar-in-Char.ensures)

pub returns-in-ListU8 : goal.returns-in-ListU8
returns-in-ListU8 g c =
    rw c.in-ListU8.is (list_said byte u8_impl.ghosts.from_str_gives (numeral 8) numeral_text _ _ _ _ (λ word v h. h.0) (λ word e h. (BadValue, h.0)) c.convert_list.ensures)

pub returns-in-ListU32 : goal.returns-in-ListU32
returns-in-ListU32 g c =
    rw c.in-ListU32.is (list_said (num 32 (inr (inl refl))) u32_impl.ghosts.from_str_gives (numeral 32) numeral_text _ _ _ _ (λ word v h. h.0) (λ word e h. (BadValue, h.0)) c.convert_list-in-ListU32.ensures)
