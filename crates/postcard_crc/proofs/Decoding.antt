-- The content of a buffer after the frame at its start was decoded in place.
use Rattle.std.proofs.Common.{◌≡◌, ℕ, ◌<◌, ◌≤◌, List, ◌++◌, length, take, drop, sym, ap, subst, ◌∙◌, arith, length-append}
use Rattle.std.proofs.lemmas.List.{take_at, take-append-drop, take-take, length-take-le}
use Rattle.std.specs.Prelude.{flat_map}
use Rattle.postcard_cobs.specs.Groups.{Groups, coded, before_zero}
use Rattle.postcard_cobs.specs.InPlace.{LeavesData}
use Rattle.postcard_cobs.proofs.Decoding.{before_zero_front}
use Rattle.postcard_frame.specs.Frame.{HasNoData}
use Rattle.postcard_frame.specs.Buffer.{from_zero, KeepsFromZero}
use Rattle.postcard_crc.specs.Parts.{IsDecodedFrame}
use Rattle.postcard_crc.specs.declared.de.cobs.DecodedFrame.{DecodedFrame}

-- A buffer as long as before, with the same bytes past the frame, is the old one from its zero on.
keeps : (old new : List ℕ) → length new ≡ length old → drop (length (before_zero old)) new ≡ from_zero old → KeepsFromZero old new
keeps old new long past =
    let n = length (before_zero old) in
    let inside = (before_zero_front old).0 in (
      take n new,
      length-take-le n new (omega (arith, inside, long)),
      sym (take-append-drop n new) ∙ ap (λ (x : List ℕ). take n new ++ x) past,
    )

-- A frame that has data is not empty.
not_empty : (frame d : List ℕ) → Groups frame d → 0 < length frame
not_empty frame d g =
    let e : length frame ≡ length (flat_map coded g.before ++ coded g.last) = ap length g.frame_is in
    let s = length-append (flat_map coded g.before) (coded g.last) in omega (arith, e, s)

module _ (old : List ℕ) (d : DecodedFrame) (long : length d.all.now ≡ length old)
    (past : drop (length (before_zero old)) d.all.now ≡ from_zero old) where
  -- The frame was decoded.
  pub is_decoded : d.frame_len ≡ length (before_zero old) → LeavesData old d.all.now d.data_len → d.data_len ≤ d.frame_len → d.frame_len ≤ length d.all.now → IsDecodedFrame old d
  is_decoded is left behind inside =
      let data_is : take d.data_len d.all.now ≡ left.0 = ap (take d.data_len) left.3 ∙ take_at left.0 (drop (length left.0) old) d.data_len (sym left.2) in
      let groups : Groups (before_zero old) (take d.data_len (take d.frame_len d.all.now)) = subst (λ (x : List ℕ). Groups (before_zero old) x) (sym data_is ∙ sym (take-take d.data_len d.frame_len d.all.now behind)) left.1 in
      let some = not_empty (before_zero old) left.0 left.1 in
      let size : length (take d.frame_len d.all.now) ≡ d.frame_len = length-take-le d.frame_len d.all.now inside in
      record {
        keeps = keeps old d.all.now long past;
        within = (behind, inside);
        has_data = ((λ none. absurd (omega (arith, none, size, is, some))), (λ _. groups));
      }

  -- The frame has no data.
  pub has_none : d.frame_len ≡ 0 → d.data_len ≡ 0 → HasNoData (before_zero old) → IsDecodedFrame old d
  has_none ends no_data none =
      let size : length (take d.frame_len d.all.now) ≡ d.frame_len = length-take-le d.frame_len d.all.now (omega (arith, ends)) in
      record {
        keeps = keeps old d.all.now long past;
        within = (omega (arith, ends, no_data), omega (arith, ends));
        has_data = ((λ _. none), (λ some. absurd (omega (arith, size, ends, some))));
      }

-- The decoded data lies in the first part of the buffer. The first part and the remaining bytes are the buffer.
pub data_within : (old : List ℕ) (d : DecodedFrame) → IsDecodedFrame old d → d.data_len ≤ length (take d.frame_len d.all.now)
data_within old d is =
    let size : length (take d.frame_len d.all.now) ≡ d.frame_len = length-take-le d.frame_len d.all.now is.within.1 in
    let inside = is.within.0 in omega (arith, size, inside)

pub keeps_all : (old : List ℕ) (d : DecodedFrame) → IsDecodedFrame old d → KeepsFromZero old (take d.frame_len d.all.now ++ drop d.frame_len d.all.now)
keeps_all old d is = subst (λ (x : List ℕ). KeepsFromZero old x) (sym (take-append-drop d.frame_len d.all.now)) is.keeps
