-- Each order, by what was computed for its generator.
use Rattle.std.proofs.Common.{◌∷◌, []}
use Rattle.crc.specs.Algorithm.{parameters}
use Rattle.crc.specs.declared.catalog.TheConstants.{CRC_8_SMBUS, CRC_8_MAXIM_DOW, CRC_16_IBM_SDLC, CRC_16_XMODEM, CRC_16_MODBUS, CRC_16_USB, CRC_16_KERMIT, CRC_24_OPENPGP, CRC_32_ISO_HDLC, CRC_32_ISCSI, CRC_32_BZIP2, CRC_32_MPEG_2, CRC_64_XZ, CRC_64_ECMA_182, CRC_82_DARC}
use Rattle.crc.proofs.PrimeOrder.{order_of}
use Rattle.crc.proofs.Orders.{order_8_07, order_8_31, order_16_1021, order_16_8005, order_24, order_32, order_32c, order_64, order_82}
use Rattle.crc.proofs.catalog.orders.Goals as goal

pub returns-clause-crc_8_smbus : goal.returns-clause-crc_8_smbus
returns-clause-crc_8_smbus c = (order_of (parameters (λ n. n) CRC_8_SMBUS) 10 (127 ∷ []) order_8_07).0

pub returns-clause-crc_8_maxim_dow : goal.returns-clause-crc_8_maxim_dow
returns-clause-crc_8_maxim_dow c = (order_of (parameters (λ n. n) CRC_8_MAXIM_DOW) 10 (127 ∷ []) order_8_31).0

pub returns-clause-crc_16_ibm_sdlc : goal.returns-clause-crc_16_ibm_sdlc
returns-clause-crc_16_ibm_sdlc c = (order_of (parameters (λ n. n) CRC_16_IBM_SDLC) 11 (7 ∷ 31 ∷ 151 ∷ []) order_16_1021).0

pub returns-clause-crc_16_xmodem : goal.returns-clause-crc_16_xmodem
returns-clause-crc_16_xmodem c = (order_of (parameters (λ n. n) CRC_16_XMODEM) 11 (7 ∷ 31 ∷ 151 ∷ []) order_16_1021).0

pub returns-clause-crc_16_modbus : goal.returns-clause-crc_16_modbus
returns-clause-crc_16_modbus c = (order_of (parameters (λ n. n) CRC_16_MODBUS) 11 (7 ∷ 31 ∷ 151 ∷ []) order_16_8005).0

pub returns-clause-crc_16_usb : goal.returns-clause-crc_16_usb
returns-clause-crc_16_usb c = (order_of (parameters (λ n. n) CRC_16_USB) 11 (7 ∷ 31 ∷ 151 ∷ []) order_16_8005).0

pub returns-clause-crc_16_kermit : goal.returns-clause-crc_16_kermit
returns-clause-crc_16_kermit c = (order_of (parameters (λ n. n) CRC_16_KERMIT) 11 (7 ∷ 31 ∷ 151 ∷ []) order_16_1021).0

pub returns-clause-crc_24_openpgp : goal.returns-clause-crc_24_openpgp
returns-clause-crc_24_openpgp c = (order_of (parameters (λ n. n) CRC_24_OPENPGP) 421 (47 ∷ 178481 ∷ []) order_24).0

pub returns-clause-crc_32_iso_hdlc : goal.returns-clause-crc_32_iso_hdlc
returns-clause-crc_32_iso_hdlc c = (order_of (parameters (λ n. n) CRC_32_ISO_HDLC) 255 (3 ∷ 5 ∷ 17 ∷ 257 ∷ 65537 ∷ []) order_32).0

pub returns-clause-crc_32_iscsi : goal.returns-clause-crc_32_iscsi
returns-clause-crc_32_iscsi c = (order_of (parameters (λ n. n) CRC_32_ISCSI) 46340 (2147483647 ∷ []) order_32c).0

pub returns-clause-crc_32_bzip2 : goal.returns-clause-crc_32_bzip2
returns-clause-crc_32_bzip2 c = (order_of (parameters (λ n. n) CRC_32_BZIP2) 255 (3 ∷ 5 ∷ 17 ∷ 257 ∷ 65537 ∷ []) order_32).0

pub returns-clause-crc_32_mpeg_2 : goal.returns-clause-crc_32_mpeg_2
returns-clause-crc_32_mpeg_2 c = (order_of (parameters (λ n. n) CRC_32_MPEG_2) 255 (3 ∷ 5 ∷ 17 ∷ 257 ∷ 65537 ∷ []) order_32).0

pub returns-clause-crc_64_xz : goal.returns-clause-crc_64_xz
returns-clause-crc_64_xz c = (order_of (parameters (λ n. n) CRC_64_XZ) 361 (2 ∷ 7 ∷ 31 ∷ 151 ∷ 131071 ∷ []) order_64).0

pub returns-clause-crc_64_ecma_182 : goal.returns-clause-crc_64_ecma_182
returns-clause-crc_64_ecma_182 c = (order_of (parameters (λ n. n) CRC_64_ECMA_182) 361 (2 ∷ 7 ∷ 31 ∷ 151 ∷ 131071 ∷ []) order_64).0

pub returns-clause-crc_82_darc : goal.returns-clause-crc_82_darc
returns-clause-crc_82_darc c = (order_of (parameters (λ n. n) CRC_82_DARC) 2 (3 ∷ 7 ∷ 13 ∷ []) order_82).0
