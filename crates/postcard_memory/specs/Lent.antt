-- What a `Memory` owns of the bytes that a caller lent to it.
use Rattle.std.specs.Prelude.{ℕ, ◌^◌, List, length}
use Rattle.std.specs.Borrow.{Fml, GName, fsep, ffalse, u8}
use Rattle.std.specs.Ptr.{Ptr, block_ptr, null_ptr}
use base.Fml.{Lft, fex, fobs, fbor, flt}
use mathlib.Core.Bool.{Bool, true, false}
use mathlib.Core.List.{◌++◌}
use types.Na.{na_inv}
use denote.Sharing.{said, beside, some, ends}
use denote.Slice.{coded_holeys, heres, elements_shared}
use denote.Lend.{Held}

-- The bytes xs are at the pointer, lent under the name γ for the time κ: what a `&mut [u8]` to them
-- owns.
abbrev pub lent_bytes : Lft → Ptr → GName → List ℕ → Fml
lent_bytes κ (block_ptr b o) γ xs = fsep (flt (length xs) (2 ^ 63)) (fsep (fobs γ ((coded_holeys u8).code (heres u8 xs))) (fbor κ (Held u8 (length xs) b o γ)))
lent_bytes κ null_ptr γ xs = ffalse

-- The bytes under a `&` to a `Memory` that lives for α: lent as a whole, or shared once they were
-- read.
abbrev pub lent_or_shared : Lft → Lft → GName → List ℕ → ℕ → ℕ → Bool → Fml
lent_or_shared κ α γ xs b o true = fbor α (lent_bytes κ (block_ptr b o) γ xs)
lent_or_shared κ α γ xs b o false = elements_shared u8 xs b o (α ++ κ)

-- They are kept so, and each reader reaches them.
abbrev pub readable : Lft → Lft → GName → List ℕ → ℕ → ℕ → Fml
readable κ α γ xs b o = na_inv (b, o) (fex Bool (lent_or_shared κ α γ xs b o))

-- What a `&` to a `Memory` has of the bytes xs at the pointer.
abbrev pub bytes_shared : Lft → Ptr → GName → List ℕ → Lft → Fml
bytes_shared κ' (block_ptr b o) γ xs = some Lft (λ α. beside (ends α) (said (readable κ' α γ xs b o)))
bytes_shared κ' null_ptr γ xs = λ κ. ffalse
