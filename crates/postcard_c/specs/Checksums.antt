-- The checksums that C can ask for, and what a call with one leaves in a writer or a reader of C.
use Rattle.std.specs.Prelude.{◌≡◌, ◌≢◌, ℕ, ◌+◌, ◌<◌, ◌≤◌, true, List, ◌++◌, length, take}
use Rattle.crc.specs.Crc.{Parameters, IsCrc, IsValid}
use Rattle.crc.specs.Checked.{low_bytes}
use Rattle.crc.specs.Register.{feedback}
use Rattle.postcard_c.specs.declared.reader.Reader.{Reader}
use Rattle.postcard_c.specs.declared.writer.Writer.{Writer}
use Rattle.postcard_c.specs.Reading.{rest_of}
use Rattle.postcard_c.specs.Writing.{Puts}

-- CRC-32/ISO-HDLC, by its parameters in the catalogue.
abbrev pub crc_32 : Parameters
crc_32 = record {
  width = 32;
  poly = 0x04c1_1db7;
  init = 0xffff_ffff;
  refin = true;
  refout = true;
  xorout = 0xffff_ffff;
}

-- CRC-16/IBM-SDLC, likewise.
abbrev pub crc_16 : Parameters
crc_16 = record {
  width = 16;
  poly = 0x1021;
  init = 0xffff;
  refin = true;
  refout = true;
  xorout = 0xffff;
}

-- The algorithm takes and gives the lowest bit first. The number `generator` is its generator without
-- the highest power, as a register of 32 bits has it, and `added` is what is added at the end.
pub record Reflects (a : Parameters) (generator added : ℕ) : Type 0 where
  pub valid : IsValid 32 a
  pub refin : a.refin ≡ true
  pub refout : a.refout ≡ true
  pub feeds : generator ≡ feedback 32 a
  pub adds : added ≡ a.xorout

-- The call, whose task was to append the k bytes of the checksum of what the writer `old` holds, the
-- lowest first, turned it into `new`.
pub record PutsCrc (a : Parameters) (k : ℕ) (old new : Writer) (result : ℕ) : Type 0 where
  pub crc : ℕ
  pub is_crc : IsCrc a (take old.used old.buffer.now) crc
  pub puts : Puts (low_bytes k crc) old new result

-- The call took the bytes xs, if they are the next. It fails with status 4 if fewer are left, and with
-- status 12 if as many are that are others; nothing else is changed then. A reader that failed before
-- is unchanged.
pub record TakesJust (xs : List ℕ) (old new : Reader) (result : ℕ) : Type 0 where
  pub same_bytes : new.bytes ≡ old.bytes
  pub returns_status : result ≡ new.status
  pub failed_before : old.status ≢ 0 → new ≡ old
  pub taken : old.status ≡ 0 → (rest : List ℕ) → rest_of old ≡ xs ++ rest
      → (new.status ≡ 0) × (new.at ≡ old.at + length xs)
  pub short : old.status ≡ 0 → length (rest_of old) < length xs
      → (new.status ≡ 4) × (new.at ≡ old.at)
  pub others : old.status ≡ 0 → length xs ≤ length (rest_of old)
      → take (length xs) (rest_of old) ≢ xs → (new.status ≡ 12) × (new.at ≡ old.at)

-- The call, whose task was to take the k bytes of the checksum of what the reader `old` has read, the
-- lowest first, turned it into `new`.
pub record GetsCrc (a : Parameters) (k : ℕ) (old new : Reader) (result : ℕ) : Type 0 where
  pub crc : ℕ
  pub is_crc : IsCrc a (take old.at old.bytes.now) crc
  pub takes : TakesJust (low_bytes k crc) old new result
