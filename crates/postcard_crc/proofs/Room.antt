-- Lemmas on which messages fit in a buffer of a known length.
use Rattle.std.proofs.Common.{◌≡◌, ℕ, ◌+◌, ◌≤◌, List, [], ◌++◌, length, take, ap, Result, Ok, Err, arith, length-append}
use Rattle.std.specs.Result.{IfOk, IsOk}
use Rattle.std.proofs.lemmas.List.{length-take}
use Rattle.crc.specs.Checked.{low_bytes}
use Rattle.crc.proofs.CheckedLemmas.{length_low}
use Rattle.postcard_ser_flavors.specs.Slice.{Written, Appended, HasRoom, Reaches}

-- If a success has the properties P and Q, what follows from both holds.
pub at_success : {A E : Type 0} (P Q : A → Type 0) (R : Type 0) (r : Result A E) → IsOk r → IfOk r P → IfOk r Q → ((x : A) → P x → Q x → R) → R
at_success P Q R (Ok x) ok p q follows = follows x p q
at_success P Q R (Err e) ok p q follows = cc

-- A message with its checksum that was written into an empty slice is no longer than the slice,
pub slice_within : (k crc : ℕ) (s t : Written) (enc : List ℕ) → s.count ≡ 0 → Appended s (enc ++ low_bytes k crc) t → Reaches s t → length enc + k ≤ length s.buffer
slice_within k crc s t enc none appended reached =
    omega (arith, ap length appended, length-append (take s.count s.buffer) (enc ++ low_bytes k crc), length-append enc (low_bytes k crc), length_low k crc, length-take t.count t.buffer, reached.same_length)

-- and one that is no longer has room.
pub slice_room : (s : Written) (ys : List ℕ) (n : ℕ) → s.count ≡ 0 → length ys ≡ n → n ≤ length s.buffer → HasRoom s ys
slice_room s ys n none count few = omega (arith, length-take s.count s.buffer)

pub list_within : (k crc : ℕ) (s out enc : List ℕ) (n : ℕ) → s ≡ [] → out ≡ s ++ (enc ++ low_bytes k crc) → length out ≤ n → length enc + k ≤ n
list_within k crc s out enc n none is few =
    omega (arith, ap length is, ap length none, length-append s (enc ++ low_bytes k crc), length-append enc (low_bytes k crc), length_low k crc)
