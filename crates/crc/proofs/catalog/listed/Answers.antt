-- Each entry, by computing.
use Rattle.std.proofs.Common.{refl}
use Rattle.std.specs.Int.{reverse_bits_onto}
use Rattle.crc.specs.declared.catalog.TheConstants.{CRC_8_SMBUS, CRC_8_MAXIM_DOW, CRC_16_IBM_SDLC, CRC_16_XMODEM, CRC_16_MODBUS, CRC_16_USB, CRC_16_KERMIT, CRC_24_OPENPGP, CRC_32_ISO_HDLC, CRC_32_ISCSI, CRC_32_BZIP2, CRC_32_MPEG_2, CRC_64_XZ, CRC_64_ECMA_182, CRC_82_DARC}
use Rattle.crc.proofs.ListedLemmas.{remainder, shows_values, listed}
use Rattle.crc.proofs.catalog.listed.Goals as goal

pub returns-clause-crc_8_smbus : goal.returns-clause-crc_8_smbus
unfolding remainder shows_values reverse_bits_onto
returns-clause-crc_8_smbus c = listed CRC_8_SMBUS refl

pub returns-clause-crc_8_maxim_dow : goal.returns-clause-crc_8_maxim_dow
unfolding remainder shows_values reverse_bits_onto
returns-clause-crc_8_maxim_dow c = listed CRC_8_MAXIM_DOW refl

pub returns-clause-crc_16_ibm_sdlc : goal.returns-clause-crc_16_ibm_sdlc
unfolding remainder shows_values reverse_bits_onto
returns-clause-crc_16_ibm_sdlc c = listed CRC_16_IBM_SDLC refl

pub returns-clause-crc_16_xmodem : goal.returns-clause-crc_16_xmodem
unfolding remainder shows_values reverse_bits_onto
returns-clause-crc_16_xmodem c = listed CRC_16_XMODEM refl

pub returns-clause-crc_16_modbus : goal.returns-clause-crc_16_modbus
unfolding remainder shows_values reverse_bits_onto
returns-clause-crc_16_modbus c = listed CRC_16_MODBUS refl

pub returns-clause-crc_16_usb : goal.returns-clause-crc_16_usb
unfolding remainder shows_values reverse_bits_onto
returns-clause-crc_16_usb c = listed CRC_16_USB refl

pub returns-clause-crc_16_kermit : goal.returns-clause-crc_16_kermit
unfolding remainder shows_values reverse_bits_onto
returns-clause-crc_16_kermit c = listed CRC_16_KERMIT refl

pub returns-clause-crc_24_openpgp : goal.returns-clause-crc_24_openpgp
unfolding remainder shows_values reverse_bits_onto
returns-clause-crc_24_openpgp c = listed CRC_24_OPENPGP refl

pub returns-clause-crc_32_iso_hdlc : goal.returns-clause-crc_32_iso_hdlc
unfolding remainder shows_values reverse_bits_onto
returns-clause-crc_32_iso_hdlc c = listed CRC_32_ISO_HDLC refl

pub returns-clause-crc_32_iscsi : goal.returns-clause-crc_32_iscsi
unfolding remainder shows_values reverse_bits_onto
returns-clause-crc_32_iscsi c = listed CRC_32_ISCSI refl

pub returns-clause-crc_32_bzip2 : goal.returns-clause-crc_32_bzip2
unfolding remainder shows_values reverse_bits_onto
returns-clause-crc_32_bzip2 c = listed CRC_32_BZIP2 refl

pub returns-clause-crc_32_mpeg_2 : goal.returns-clause-crc_32_mpeg_2
unfolding remainder shows_values reverse_bits_onto
returns-clause-crc_32_mpeg_2 c = listed CRC_32_MPEG_2 refl

pub returns-clause-crc_64_xz : goal.returns-clause-crc_64_xz
unfolding remainder shows_values reverse_bits_onto
returns-clause-crc_64_xz c = listed CRC_64_XZ refl

pub returns-clause-crc_64_ecma_182 : goal.returns-clause-crc_64_ecma_182
unfolding remainder shows_values reverse_bits_onto
returns-clause-crc_64_ecma_182 c = listed CRC_64_ECMA_182 refl

pub returns-clause-crc_82_darc : goal.returns-clause-crc_82_darc
unfolding remainder shows_values reverse_bits_onto
returns-clause-crc_82_darc c = listed CRC_82_DARC refl
