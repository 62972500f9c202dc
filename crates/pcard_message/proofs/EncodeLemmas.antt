-- What `enc` prints, and that its buffer has room for each frame. An encoding has at most 4,096 bytes, and a checksum 16, so a frame
-- is of at most 4,112 bytes. It has at most 18 more: a code byte for each 254 bytes, and the zero.
use Rattle.std.proofs.Common.{◌≡◌, sym, subst, ap, ◌∙◌, arith, ℕ, ◌≤◌, List, [], ◌++◌, length, append-nil, Bool, true, false, Option}
use Rattle.std.specs.Io.KnownBytes.{Appends}
use Rattle.postcard_wire.specs.Spelling.{canonical}
use Rattle.postcard_value.specs.Tree.{tree}
use Rattle.postcard_value.specs.declared.value.Value.{Value}
use Rattle.postcard_cobs.specs.Groups.{IsMade, Standing, made}
use Rattle.postcard_cobs.proofs.Made.{made_is_made, made_length}
use Rattle.postcard_ser_cobs.specs.Framing.{HoldsOpen, HasFrameRoom}
use Rattle.postcard_ser_cobs.specs.FramingLaws.{made_least, open_made}
use Rattle.postcard_ser_flavors.specs.Held.{HasFreeUpTo}
use Rattle.pcard_message.specs.Encoding.{IsBody, IsValueOf, IsWrapped, PrintsEncoded, written}
use Rattle.pcard_message.specs.declared.format.Format.{Format}

-- The frame of at most 4,112 bytes has at most 4,130 bytes, its zero included.
frame_fits : (xs : List ℕ) → length xs ≤ 4112 → length (made xs) ≤ 4130
frame_fits xs short = let n = made_length xs in omega arith

-- A vector of 4,130 bytes that holds only the place of the first code byte has room for the frame of at most 4,112 bytes.
pub frame_room : (t : List ℕ) (start : ℕ) (at : Standing) (failed : Bool) (xs : List ℕ) → length xs ≤ 4112 → HoldsOpen (λ (s : List ℕ). s) t start at failed [] []
    → HasFrameRoom (λ (s : List ℕ). s) (HasFreeUpTo (λ (s : List ℕ). s) 4130) t start at failed xs
frame_room t start at failed xs short holds =
    let least = made_least [] xs in
    let fits = frame_fits xs short in
    let held = ap length holds.held_is in
    let opened = open_made holds.frame [] at holds.stands in
    record { before = []; d = []; holds = holds; enough = omega arith; few = omega arith }

-- If there is room for a frame of some bytes, there is room for it of these bytes and no others.
abbrev pub with_none : {s : List ℕ} {start : ℕ} {at : Standing} {failed : Bool} (xs : List ℕ)
    → HasFrameRoom (λ (s : List ℕ). s) (HasFreeUpTo (λ (s : List ℕ). s) 4130) s start at failed xs
    → HasFrameRoom (λ (s : List ℕ). s) (HasFreeUpTo (λ (s : List ℕ). s) 4130) s start at failed (xs ++ [])
with_none xs room =
    record { before = room.before; d = room.d; holds = room.holds; enough = rw append-nil room.enough; few = rw append-nil room.few }

-- What the encoder makes is the frame by its definition.
pub is_frame : (xs frame : List ℕ) → frame ≡ made xs → IsMade xs frame
is_frame xs frame is = subst (λ (m : List ℕ). IsMade xs m) (sym is) (made_is_made xs)

-- ---- what is printed

module _ (format : Format) (raw : Bool) (text : List ℕ) (v : Value) (body out : List ℕ) (old new : Option (List ℕ)) (is : IsValueOf format text v)
    (has : IsBody format.checksum (canonical (tree v)) body) (printed : Appends old new (written raw out)) where
  -- The frame of a message and its checksum is printed.
  pub in_frame : format.framed ≡ true → IsMade body out → PrintsEncoded format raw text old new
  in_frame framed made = record {
    value_of = v;
    is = is;
    out = out;
    packed = record { body = body; is_body = has; wrapped = subst (λ b. IsWrapped b body out) (sym framed) made };
    printed = printed;
  }

  -- A message and its checksum are printed without a frame.
  pub alone : format.framed ≡ false → out ≡ body → PrintsEncoded format raw text old new
  alone framed same = record {
    value_of = v;
    is = is;
    out = out;
    packed = record { body = body; is_body = has; wrapped = subst (λ b. IsWrapped b body out) (sym framed) same };
    printed = printed;
  }
