-- The answers that the code makes are right: to the data of a message, to a frame, and to the first message or frame of some bytes.
use Rattle.std.proofs.Common.{◌≡◌, inl, inr, refl, sym, ap, subst, ◌∙◌, ℕ, ◌+◌, ◌-◌, ◌<◌, ◌≤◌, Bool, true, false, eqb, arith, List, [], ◌∷◌, ◌++◌, length, length-append, take, drop, take_all, Option, None, Some, ne_eqb}
use Rattle.std.proofs.lemmas.List.{append_assoc, take-append-le}
use Rattle.postcard_cobs.specs.Groups.{EndsFrame, Groups, NoZero, before_zero}
use Rattle.postcard_cobs.specs.InPlace.{LeavesData}
use Rattle.postcard_wire.specs.declared.error.Error.{Error}
use Rattle.postcard_value.specs.declared.value.Value.{Value}
use Rattle.pcard_bytes.specs.Checksum.{HasNoTrailer, IsTrailer, trailer_of}
use Rattle.pcard_bytes.specs.declared.checksum.Checksum.{Checksum}
use Rattle.pcard_print.specs.Answers.{Answer, Why, value, refused}
use Rattle.pcard_print.specs.declared.refusal.Reason.TheVariants.{BadChecksum}
use Rattle.pcard_message.specs.declared.format.Format.{Format}
use Rattle.pcard_message.specs.Reading.{IsBadData, IsBehind, IsContentAnswer, IsFrameAnswer, IsNext, IsNextData, IsNextIn, LacksChecksum, ReadsData, ReadsValue, no_cobs, no_zero}

-- ---- the data of a message

-- If bytes are `front` and `rest`, the first of them, as many as there are more than `rest` has, are `front`.
front_of : (bytes front rest : List ℕ) → bytes ≡ front ++ rest → take (length bytes - length rest) bytes ≡ front
front_of bytes front rest e =
    let n : length bytes - length rest ≡ length front = omega (arith, ap length e, length-append front rest) in
    let le : length front ≤ length front = omega arith in
    ap (λ k. take k bytes) n ∙ ap (take (length front)) e ∙ take-append-le (length front) front rest le ∙ take_all (length front) front le

module _ (s : Format) (bytes behind : List ℕ) (v : Value) (is : ReadsValue s.schema bytes v behind) where
  -- The bytes before those after the message are the message.
  front_is : take (length bytes - length behind) bytes ≡ is.front
  front_is = front_of bytes is.front behind is.joins

  -- The bytes after the message are no more than all bytes.
  pub behind_within : length behind ≤ length bytes
  behind_within = let n = ap length is.joins ∙ length-append is.front behind in omega arith

  -- If the format has no checksum, the value and the bytes after its message are those of the data.
  pub unmarked : s.checksum ≡ None → ReadsData s bytes v behind
  unmarked none = (behind, is, subst (λ (k : Option Checksum). IsBehind k is.front behind behind) (sym none) refl)

  -- If the format has a checksum, and it follows the message, the value and the bytes after the checksum are those of the data.
  pub marked : (c : Checksum) (rest : List ℕ) → s.checksum ≡ Some c → IsTrailer c (take (length bytes - length behind) bytes) behind rest → ReadsData s bytes v rest
  marked c rest some follows =
      let here : IsTrailer c is.front behind rest = subst (λ (front : List ℕ). IsTrailer c front behind rest) front_is follows in
      (behind, is, subst (λ (k : Option Checksum). IsBehind k is.front behind rest) (sym some) here)

  -- If the format has a checksum, and it doesn't follow the message, the data is refused where the checksum should begin.
  pub unchecked : (c : Checksum) (e : Error) (w : Why) → s.checksum ≡ Some c → HasNoTrailer c (take (length bytes - length behind) bytes) behind e → w.reason ≡ BadChecksum
      → w.offset ≡ length bytes - length behind → w.path ≡ [] → w.shown ≡ None → IsBadData s bytes w
  unchecked c e w some lacks reason at path shown =
      let here : HasNoTrailer c is.front behind e = subst (λ (front : List ℕ). HasNoTrailer c front behind e) front_is lacks in
      let n = ap length is.joins ∙ length-append is.front behind in (
        inr (record {
          value = v;
          behind = behind;
          is = is;
          lacks = subst (λ (k : Option Checksum). LacksChecksum k is.front behind) (sym some) (e, here);
          reason = reason;
          at = at ∙ (omega arith);
          path_is = path;
        }),
        shown,
      )

-- The bytes after a message are some bytes, those of its checksum or none, and then the rest.
behind_cut : (o : Option Checksum) (front behind rest : List ℕ) → IsBehind o front behind rest → (mid : List ℕ) × (behind ≡ mid ++ rest)
behind_cut None front behind rest is = ([], sym is)
behind_cut (Some c) front behind rest is = (trailer_of c is.0, is.2)

-- The bytes of data are some front, and then the bytes after the value and its checksum.
data_cut : (s : Format) (bytes rest : List ℕ) (v : Value) → ReadsData s bytes v rest → (front : List ℕ) × (bytes ≡ front ++ rest)
data_cut s bytes rest v (behind, is, follows) =
    let cut = behind_cut s.checksum is.front behind rest follows in
    (is.front ++ cut.0, is.joins ∙ ap (λ (t : List ℕ). is.front ++ t) cut.1 ∙ sym (append_assoc is.front cut.0 rest))

-- The bytes after the value and its checksum are no more than all bytes of the data.
pub data_within : (s : Format) (bytes rest : List ℕ) (v : Value) → ReadsData s bytes v rest → length rest ≤ length bytes
data_within s bytes rest v is = let cut = data_cut s bytes rest v is in let n = ap length cut.1 ∙ length-append cut.0 rest in omega arith

-- Dropping the first of two joined lists leaves the second.
drop_front : (xs ys : List ℕ) → drop (length xs) (xs ++ ys) ≡ ys
drop_front [] ys = refl
drop_front (x ∷ xs) ys = drop_front xs ys

-- The bytes after the value and its checksum are the last ones of the data.
pub data_after : (s : Format) (bytes rest : List ℕ) (v : Value) → ReadsData s bytes v rest → drop (length bytes - length rest) bytes ≡ rest
data_after s bytes rest v is =
    let cut = data_cut s bytes rest v is in
    let n : length bytes - length rest ≡ length cut.0 = omega (arith, ap length cut.1, length-append cut.0 rest) in
    ap (λ (k : ℕ). drop k bytes) n ∙ ap (λ (t : List ℕ). drop (length cut.0) t) cut.1 ∙ drop_front cut.0 rest

-- The data gives its value, and after it the last bytes of the data, as many as `rest` has.
pub value_next : (s : Format) (bytes rest : List ℕ) (v : Value) → ReadsData s bytes v rest → ReadsData s bytes v (drop (length bytes - length rest) bytes)
value_next s bytes rest v is = subst (λ (t : List ℕ). ReadsData s bytes v t) (sym (data_after s bytes rest v is)) is

-- ---- a frame

-- The frame at the start of bytes without a zero is all of them.
before_zero_all : (f : List ℕ) → NoZero f → before_zero f ≡ f
before_zero_all [] z = refl
before_zero_all (b ∷ f) z = let e : eqb b 0 ≡ false = ne_eqb b 0 (λ e. omega (arith, z.0)) in
    rw e (ap (λ (x : List ℕ). b ∷ x) (before_zero_all f z.1))

-- Taking as many elements as the first of two joined lists has gives the first.
take_front_of : (xs ys : List ℕ) → take (length xs) (xs ++ ys) ≡ xs
take_front_of [] ys = refl
take_front_of (x ∷ xs) ys = ap (λ (t : List ℕ). x ∷ t) (take_front_of xs ys)

-- After a frame without a zero is decoded in place, the first n bytes of the buffer are the frame's data.
pub decoded : (frame new : List ℕ) (n : ℕ) → NoZero frame → LeavesData frame new n → Groups frame (take n new)
decoded frame new n free (d, groups, length_is, is) =
    let whole = rw (before_zero_all frame free) at groups in
    let front : take n new ≡ d = rw (length_is, is) (take_front_of d (drop (length d) frame)) in
    let P : List ℕ → Type 0 = λ t. Groups frame t in subst P (sym front) whole

-- If decoding finds no data for a frame without a zero, the frame has none.
pub undecoded : (frame : List ℕ) → NoZero frame → ((d : List ℕ) → Groups (before_zero frame) d → ⊥) → (d : List ℕ) → Groups frame d → ⊥
undecoded frame free none d groups = none d (rw (before_zero_all frame free) groups)

-- If the code byte of a frame without a zero is the frame's length, the bytes after it are the frame's data. A code byte is below 256.
pub one_group : (frame content : List ℕ) (code : ℕ) → frame ≡ code ∷ content → code ≡ length frame → code < 256 → NoZero frame → Groups frame content
one_group frame content code cut whole small free =
    let long : length frame ≡ length (code ∷ content) = ap length cut in
    let is_code : code ≡ length content + 1 = omega arith in
    let parts : NoZero (code ∷ content) = subst NoZero cut free in
    record {
      before = [];
      last = content;
      are = tt;
      is = record { fits = omega arith; no_zero = parts.1 };
      frame_is = cut ∙ ap (λ (n : ℕ). n ∷ content) is_code;
      data_is = refl;
    }

-- The answer to a frame's data is that to the frame.
pub content_answer : (s : Format) (frame content : List ℕ) (a : Answer) → Groups frame content → IsContentAnswer s content a → IsFrameAnswer s frame a
content_answer s frame content (value v rest) groups is = (content, groups, is)
content_answer s frame content (refused w) groups is = inl (content, is.0, groups, is.1, is.2)

-- If a frame has no data, its answer is that it is no COBS frame.
pub no_content : (s : Format) (frame : List ℕ) (a : Answer) → ((d : List ℕ) → Groups frame d → ⊥) → a ≡ refused (no_cobs frame) → IsFrameAnswer s frame a
no_content s frame a none is = subst (λ (x : Answer). IsFrameAnswer s frame x) (sym is) (inr (none, refl))

-- ---- the first message or frame of some bytes

-- If a zero ends the first frame of some bytes, the answer to the frame is the answer to the bytes.
pub first_frame : (s : Format) (bytes frame after : List ℕ) (a : Answer) → s.framed ≡ true → EndsFrame bytes frame after → (NoZero frame → IsFrameAnswer s frame a) → IsNext s bytes a after
first_frame s bytes frame after a framed ends is =
    subst (λ (b : Bool). IsNextIn b s bytes a after) (sym framed) (inl (frame, ends, is ends.0))

-- If the format has frames, bytes without a zero are refused, since no zero ends the frame. All bytes are left.
pub endless_frame : (s : Format) (bytes : List ℕ) (a : Answer) → s.framed ≡ true → NoZero bytes → a ≡ refused (no_zero bytes) → IsNext s bytes a bytes
endless_frame s bytes a framed free is = subst (λ (b : Bool). IsNextIn b s bytes a bytes) (sym framed) (inr (free, refl, is))

-- If the format has no frames, the answer to the first message is the answer to the bytes.
pub first_message : (s : Format) (bytes after : List ℕ) (a : Answer) → s.framed ≡ false → IsNextData s bytes a after → IsNext s bytes a after
first_message s bytes after a framed is = subst (λ (b : Bool). IsNextIn b s bytes a after) (sym framed) is
