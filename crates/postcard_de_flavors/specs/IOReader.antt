-- What contracts see of a source over a reader, which takes scratch for the bytes that it lends
-- (behaviour of postcard 1.1.3).
use Rattle.std.specs.Prelude.{◌≡◌, ℕ, ◌≤◌, ◌<◌, List, length, drop, Option, Result}
use Rattle.std.proofs.Common.{arith}
use Rattle.std.specs.Borrow.{Bor}
use Rattle.postcard_de_flavors.specs.declared.io.io.IOReader.{IOReader}
use Rattle.postcard_de_flavors.specs.Reader.{AtLeast, at_least_fewer}
use Rattle.postcard_de_flavors.specs.Source.{Left, LendsFront, Laws}

-- The reader, as it is now.
abbrev pub reader_of : {T : Type 0} → IOReader T → T
reader_of s = s.reader

-- The scratch left.
abbrev pub scratch_of : {T : Type 0} → IOReader T → List ℕ
scratch_of s = s.scratch

-- What is left: the bytes of the reader, and the scratch.
abbrev pub left_of : {T : Type 0} → (T → Option (List ℕ)) → IOReader T → Left
left_of remaining s = record { bytes = remaining (reader_of s); scratch = scratch_of s }

-- The reader is steady and is known to have at least n bytes left, and at least n bytes of scratch
-- are left.
abbrev pub CanRead : {T : Type 0} → (T → Option (List ℕ)) → (T → Type 0) → IOReader T → ℕ → Type 0
CanRead remaining steady s n = steady (reader_of s) × AtLeast (remaining (reader_of s)) n × (n ≤ length (scratch_of s))

-- A steady reader has stayed steady, and there is no more scratch than before.
abbrev pub MayBecome : {T : Type 0} → (T → Type 0) → IOReader T → IOReader T → Type 0
MayBecome steady s t = (steady (reader_of s) → steady (reader_of t)) × (length (scratch_of t) ≤ length (scratch_of s))

-- What `try_take_n_temp` of n bytes does to the scratch: its length is unchanged, and so are the
-- bytes after the first n. If it has fewer than n bytes, the source is unchanged.
abbrev pub GivesBack : {T : Type 0} → ℕ → IOReader T → IOReader T → Type 0
GivesBack n old new = (length (scratch_of new) ≡ length (scratch_of old)) × (drop n (scratch_of new) ≡ drop n (scratch_of old))
    × (length (scratch_of old) < n → new ≡ old)

-- The state of the source after the loan of n bytes by `try_take_n_temp`: `LendsFront`, as of any
-- source, and the scratch is given back.
abbrev pub LendsScratch : {T E : Type 0} → (T → Option (List ℕ)) → (T → Type 0) → ℕ → IOReader T → Result (Bor (List ℕ)) E → IOReader T → Type 0
LendsScratch remaining steady n old lent new =
    LendsFront (left_of remaining) (CanRead remaining steady) (MayBecome steady) old lent new × GivesBack n old new

-- A source over a reader obeys the laws of a source.
pub reader_laws : {T : Type 0} (remaining : T → Option (List ℕ)) (steady : T → Type 0) → Laws (left_of remaining) (CanRead remaining steady) (MayBecome steady)
reader_laws remaining steady = record {
  fewer = λ s m n le h. (h.0, at_least_fewer (remaining (reader_of s)) m n le h.1, omega (arith, le, h.2));
  itself = λ s. (λ h. h, omega arith);
  joins = λ s t u a b. (λ h. b.0 (a.0 h), omega (arith, a.1, b.1));
}
