-- What the parts of the decoding calls return.
use Rattle.std.specs.Prelude.{◌≡◌, ◌+◌, ◌<◌, ◌≤◌, ℕ, List, length, take, drop, Result, Ok, Err}
use Rattle.std.specs.Borrow.{MutBor}
use Rattle.postcard_cobs.specs.Groups.{Groups, before_zero}
use Rattle.postcard_wire.specs.declared.error.Error.{Error}
use Rattle.postcard_frame.specs.Frame.{HasNoData}
use Rattle.postcard_frame.specs.Buffer.{from_zero}
use Rattle.postcard_frame.specs.declared.cobs.Decoded.{Decoded}

-- The frame at the front of the old bytes was decoded in place, or it has no data.
pub record IsDecoded (old : List ℕ) (d : Decoded) : Type 0 where
  pub as_long : length d.all.now ≡ length old
  pub past_frame : drop (length (before_zero old)) d.all.now ≡ from_zero old
  pub within : (d.len ≤ d.end) × (d.end ≤ length d.all.now)
  pub end_is : 0 < d.end → d.end ≡ length (before_zero old) + length (take 1 (from_zero old))
  pub decodes : 0 < d.end → Groups (before_zero old) (take d.len d.all.now)
  pub no_data : d.end ≡ 0 → HasNoData (before_zero old)

-- The second result is the value of the first, with the bytes `rest`, or its error.
abbrev pub IsBeside : {T : Type 0} → Result T Error → List ℕ
    → Result (T × MutBor (List ℕ)) Error → Type 0
IsBeside (Ok v) rest (Ok read) = (read.0 ≡ v) × (read.1.now ≡ rest)
IsBeside (Ok v) rest (Err e) = ⊥
IsBeside (Err e) rest (Ok read) = ⊥
IsBeside (Err e) rest (Err f) = f ≡ e
