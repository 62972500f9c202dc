-- What a `Bytes` owns of the bytes that a caller lent to be read.
use Rattle.std.specs.Prelude.{ℕ, ◌^◌, List, length}
use Rattle.std.specs.Borrow.{Fml, fsep, ffalse, u8}
use Rattle.std.specs.Ptr.{Ptr, block_ptr, null_ptr}
use base.Fml.{Lft, fhide, flt}
use denote.Sharing.{said, beside, held}
use denote.Slice.{elements_shared}

-- The bytes xs are at the pointer, shared for the time κ: what a `&[u8]` to them owns.
abbrev pub read_bytes : Lft → Ptr → List ℕ → Fml
read_bytes κ (block_ptr b o) xs = fsep (flt (length xs) (2 ^ 63)) (fhide (elements_shared u8 xs b o κ))
read_bytes κ null_ptr xs = ffalse

-- What a `&` to a `Bytes` has of the bytes xs at the pointer: the same as the `Bytes` itself.
abbrev pub read_shared : Lft → Ptr → List ℕ → Lft → Fml
read_shared κ' (block_ptr b o) xs = beside (said (flt (length xs) (2 ^ 63))) (held κ' (elements_shared u8 xs b o))
read_shared κ' null_ptr xs = λ κ. ffalse
