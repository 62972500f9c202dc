-- What the parts of the call that decodes a frame in place return.
use Rattle.std.specs.Prelude.{◌≤◌, ℕ, List, length, take}
use Rattle.postcard_cobs.specs.Groups.{before_zero}
use Rattle.postcard_frame.specs.Buffer.{KeepsFromZero, HasDataOf}
use Rattle.postcard_crc.specs.declared.de.cobs.DecodedFrame.{DecodedFrame}

-- The frame at the start of the old bytes was decoded in place, or it has no data.
pub record IsDecodedFrame (old : List ℕ) (d : DecodedFrame) : Type 0 where
  pub keeps : KeepsFromZero old d.all.now
  pub within : (d.data_len ≤ d.frame_len) × (d.frame_len ≤ length d.all.now)
  pub has_data : HasDataOf (before_zero old) (take d.frame_len d.all.now) d.data_len
