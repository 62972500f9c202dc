-- How floats are encoded, and which floats are read, by what std says of the bytes of numbers.
use Rattle.std.proofs.Common.{◌≡◌, ℕ, ◌<◌, List, length, get_or, sym, ap, ◌∙◌}
use Rattle.std.specs.Float.{Float, binary32, binary64}
use Rattle.std.specs.Float.Ieee.{to_bits, of_bits}
use Rattle.std.specs.Int.{w32, w64, to_le_bytes, from_le_bytes}
use Rattle.postcard_wire.specs.Tree.{Tree}
use Rattle.postcard_wire.specs.Spelling.{canonical}
use Rattle.postcard_wire.specs.Reading.{IsGroup}
use Rattle.postcard_shape.specs.Lists.{EachIs}
use Rattle.postcard_shape.specs.Floats.{float, float_bytes, float_tree, IsFloat}
use Rattle.postcard_shape.specs.Runs.{IsValue}
use Rattle.postcard_shape.proofs.Bytes.{bytes_of_bytes, ByteIs}
use Rattle.postcard_shape.proofs.Counted.{array_value}
use Rattle.postcard_shape.proofs.Sums.{little_bytes, little_sum}

-- The encoding of an `f32` is the bytes that std makes of its bits, the lowest first.
pub f32_encoded : (x : Float) → canonical (float_tree binary32 x) ≡ to_le_bytes w32 (to_bits binary32 x)
f32_encoded x = bytes_of_bytes (float_bytes binary32 x) ∙ sym (little_bytes 4 (to_bits binary32 x))

-- The same of an `f64`.
pub f64_encoded : (x : Float) → canonical (float_tree binary64 x) ≡ to_le_bytes w64 (to_bits binary64 x)
f64_encoded x = bytes_of_bytes (float_bytes binary64 x) ∙ sym (little_bytes 8 (to_bits binary64 x))

-- The float whose bits std makes of four bytes is the one of their tree.
pub f32_read : (t : Tree) (bs : List ℕ) (x : Float) → length bs ≡ 4
    → x ≡ of_bits binary32 (from_le_bytes w32 bs) → IsGroup (λ ts. EachIs ByteIs ts bs) t
    → IsFloat binary32 t x
f32_read t bs x long e h = (bs, h, e ∙ ap (of_bits binary32) (little_sum bs 3 long))

-- The same of eight bytes.
pub f64_read : (t : Tree) (bs : List ℕ) (x : Float) → length bs ≡ 8
    → x ≡ of_bits binary64 (from_le_bytes w64 bs) → IsGroup (λ ts. EachIs ByteIs ts bs) t
    → IsFloat binary64 t x
f64_read t bs x long e h = (bs, h, e ∙ ap (of_bits binary64) (little_sum bs 7 long))

-- Four bytes spell the float whose bits std makes of them.
pub f32_value : (bs : List ℕ) (x : Float) → length bs ≡ 4 → ((k : ℕ) → get_or bs k 0 < 256)
    → x ≡ of_bits binary32 (from_le_bytes w32 bs) → IsValue (float binary32) bs x
f32_value bs x long small e =
    let a = array_value 4 bs long small in
    (a.0, a.1, a.2, f32_read a.0 bs x long e a.3)

-- The same of eight bytes.
pub f64_value : (bs : List ℕ) (x : Float) → length bs ≡ 8 → ((k : ℕ) → get_or bs k 0 < 256)
    → x ≡ of_bits binary64 (from_le_bytes w64 bs) → IsValue (float binary64) bs x
f64_value bs x long small e =
    let a = array_value 8 bs long small in
    (a.0, a.1, a.2, f64_read a.0 bs x long e a.3)
