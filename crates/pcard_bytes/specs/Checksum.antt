-- The checksums that have a name, their digits and their trailers.
use Rattle.std.specs.Prelude.{◌≡◌, ◌≢◌, ◌⊎◌, ℕ, ◌-◌, ◌≤◌, ◌<◌, nat_le, Bool, true, false, if◌then◌else◌, List, ◌++◌, length, take, drop, codes}
use Rattle.std.specs.Int.{w128, div_ceil, to_be_bytes, to_le_bytes}
use Rattle.hex.specs.Hex.{encode_lower}
use Rattle.crc.specs.Crc.{Parameters, IsCrc}
use Rattle.postcard_wire.specs.declared.error.Error.{Error}
use Rattle.postcard_wire.specs.declared.error.Error.TheVariants.{DeserializeBadCrc, DeserializeUnexpectedEnd}
use Rattle.pcard_bytes.specs.declared.checksum.Checksum.{Checksum}
use Rattle.pcard_bytes.specs.declared.checksum.Checksum.TheVariants.{Crc8Smbus, Crc8MaximDow, Crc16IbmSdlc, Crc16Xmodem, Crc16Modbus, Crc16Usb, Crc16Kermit, Crc24Openpgp}
use Rattle.pcard_bytes.specs.declared.checksum.Checksum.TheVariants.{Crc32IsoHdlc, Crc32Iscsi, Crc32Bzip2, Crc32Mpeg2, Crc64Xz, Crc64Ecma182, Crc82Darc}

-- The name in Greg Cook's catalogue of parametrised CRC algorithms.
abbrev pub checksum_name : Checksum → List ℕ
checksum_name Crc8Smbus = codes "CRC-8/SMBUS"
checksum_name Crc8MaximDow = codes "CRC-8/MAXIM-DOW"
checksum_name Crc16IbmSdlc = codes "CRC-16/IBM-SDLC"
checksum_name Crc16Xmodem = codes "CRC-16/XMODEM"
checksum_name Crc16Modbus = codes "CRC-16/MODBUS"
checksum_name Crc16Usb = codes "CRC-16/USB"
checksum_name Crc16Kermit = codes "CRC-16/KERMIT"
checksum_name Crc24Openpgp = codes "CRC-24/OPENPGP"
checksum_name Crc32IsoHdlc = codes "CRC-32/ISO-HDLC"
checksum_name Crc32Iscsi = codes "CRC-32/ISCSI"
checksum_name Crc32Bzip2 = codes "CRC-32/BZIP2"
checksum_name Crc32Mpeg2 = codes "CRC-32/MPEG-2"
checksum_name Crc64Xz = codes "CRC-64/XZ"
checksum_name Crc64Ecma182 = codes "CRC-64/ECMA-182"
checksum_name Crc82Darc = codes "CRC-82/DARC"

-- The parameters of an algorithm: the width, the polynomial, the initial value, whether bits come lowest first, and the value that is added
-- last. The bits come in one order both in a byte and in the checksum.
abbrev algorithm : ℕ → ℕ → ℕ → Bool → ℕ → Parameters
algorithm width poly init reflected xorout = record {
  width = width;
  poly = poly;
  init = init;
  refin = reflected;
  refout = reflected;
  xorout = xorout;
}

-- The parameters of the algorithm of this name in Greg Cook's catalogue.
abbrev pub parameters_of : Checksum → Parameters
parameters_of Crc8Smbus = algorithm 8 0x07 0 false 0
parameters_of Crc8MaximDow = algorithm 8 0x31 0 true 0
parameters_of Crc16IbmSdlc = algorithm 16 0x1021 0xffff true 0xffff
parameters_of Crc16Xmodem = algorithm 16 0x1021 0 false 0
parameters_of Crc16Modbus = algorithm 16 0x8005 0xffff true 0
parameters_of Crc16Usb = algorithm 16 0x8005 0xffff true 0xffff
parameters_of Crc16Kermit = algorithm 16 0x1021 0 true 0
parameters_of Crc24Openpgp = algorithm 24 0x864cfb 0xb704ce false 0
parameters_of Crc32IsoHdlc = algorithm 32 0x04c11db7 0xffffffff true 0xffffffff
parameters_of Crc32Iscsi = algorithm 32 0x1edc6f41 0xffffffff true 0xffffffff
parameters_of Crc32Bzip2 = algorithm 32 0x04c11db7 0xffffffff false 0xffffffff
parameters_of Crc32Mpeg2 = algorithm 32 0x04c11db7 0xffffffff false 0
parameters_of Crc64Xz = algorithm 64 0x42f0e1eba9ea3693 0xffffffffffffffff true 0xffffffffffffffff
parameters_of Crc64Ecma182 = algorithm 64 0x42f0e1eba9ea3693 0 false 0
parameters_of Crc82Darc = algorithm 82 0x308c0111011401440411 0 true 0

-- The number of bytes of the smallest unsigned integer type that has this many bits.
abbrev pub bytes_for : ℕ → ℕ
bytes_for bits =
    if nat_le bits 8 then 1 else
    if nat_le bits 16 then 2 else
    if nat_le bits 32 then 4 else if nat_le bits 64 then 8 else 16

-- The number is the checksum of the bytes.
abbrev pub IsChecksum : Checksum → List ℕ → ℕ → Type 0
IsChecksum c bytes crc = IsCrc (parameters_of c) bytes crc

-- The bytes of a checksum after its message: those of the number's type, the lowest first.
abbrev pub trailer_of : Checksum → ℕ → List ℕ
trailer_of c crc = take (bytes_for (parameters_of c).width) (to_le_bytes w128 crc)

-- A checksum as the catalogue writes it: one hexadecimal digit for each four bits of the width, rounded up, the highest first.
-- The number has 128 bits, so 32 digits, of which the last ones are taken.
abbrev pub checksum_text : Checksum → ℕ → List ℕ
checksum_text c crc = drop (32 - div_ceil (parameters_of c).width 4) (encode_lower (to_be_bytes w128 crc))

-- The bytes `behind` are the trailer of the checksum of `front`, and then `rest`.
abbrev pub IsTrailer : Checksum → List ℕ → List ℕ → List ℕ → Type 0
IsTrailer c front behind rest = (crc : ℕ) × IsChecksum c front crc × (behind ≡ trailer_of c crc ++ rest)

-- The error says why `behind` doesn't begin with the trailer of the checksum of `front`: it is too short, or has other bytes.
abbrev pub HasNoTrailer : Checksum → List ℕ → List ℕ → Error → Type 0
HasNoTrailer c front behind e =
    ((e ≡ DeserializeUnexpectedEnd) × (length behind < bytes_for (parameters_of c).width))
    ⊎ ((e ≡ DeserializeBadCrc) × (bytes_for (parameters_of c).width ≤ length behind)
    × ((crc : ℕ) × IsChecksum c front crc × ((rest : List ℕ) → behind ≢ trailer_of c crc ++ rest)))
