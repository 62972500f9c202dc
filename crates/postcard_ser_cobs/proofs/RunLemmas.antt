-- Runs and pieces: bytes in a row that don't make the open group full. A run has no zero.
use Rattle.std.proofs.Common.{◌≡◌, ℕ, refl, take, drop, get_or, ◌+◌, ◌-◌, ◌^◌, ◌<◌, List, [], ◌∷◌, ◌++◌, length, Bool, false, IsFalse, sym, ap, subst, ◌∙◌, append_assoc, arith}
use Rattle.std.proofs.lemmas.List.{take-append-drop, take_rest, length-drop}
use Rattle.std.proofs.Math.Seq.{take-add}
use Rattle.postcard_cobs.specs.Groups.{IsOpen, Standing, made}
use Rattle.postcard_cobs.proofs.Encoding.{open_length}
use Rattle.postcard_cobs.proofs.Pieces.{piece_open}
use Rattle.postcard_ser_cobs.specs.Framing.{HoldsOpen, HasFrameRoom, LeavesFrame}
use Rattle.postcard_ser_cobs.specs.FramingLaws.{open_made, not_both, room_of_front}

module _ {S : Type 0} {held : S → List ℕ} where
  -- A piece makes the frame longer by the piece's length.
  pub made_piece : {s : S} {start : ℕ} {at : Standing} {f : Bool} {before d : List ℕ} (piece : List ℕ) → length piece + at.code < 255
      → HoldsOpen held s start at f before d → length (made (d ++ piece)) ≡ length (made d) + length piece
  made_piece {at = at} {d = d} piece short h =
      let r = piece_open piece h.frame d at short h.stands in
      omega (arith, open_made h.frame d at h.stands, open_made r.frame (d ++ piece) r.at r.stands, r.longer)

  -- After a run the frame is open, with the run as data.
  pub run_holds : {s t : S} {start : ℕ} {at at' : Standing} {f f' : Bool} (run : List ℕ) {before d : List ℕ} → IsFalse f' → held t ≡ held s ++ run
      → ((L d : List ℕ) → IsOpen L at d → IsOpen (L ++ run) at' (d ++ run)) → HoldsOpen held s start at f before d → HoldsOpen held t start at' f' before (d ++ run)
  run_holds run {before = before} {d = d} going is push h = record {
    going = going;
    frame = h.frame ++ run;
    held_is = is ∙ ap (λ z. z ++ run) h.held_is ∙ append_assoc before h.frame run;
    starts = h.starts;
    stands = push h.frame d h.stands;
  }

  module _ {free : S → ℕ → Type 0} where
    -- If a piece has room, as many bytes as it has are free.
    pub piece_free : {s : S} {start : ℕ} {at : Standing} {f : Bool} (piece : List ℕ) → length piece + at.code < 255
        → ((s : S) (m n : ℕ) → free s (m + n) → free s m) → HasFrameRoom held free s start at f piece → free s (length piece)
    piece_free {s = s} piece short fewer room =
        let m = made_piece piece short room.holds in
        let e : length (made (room.d ++ piece)) - length (made room.d) + 1 ≡ length piece + 1 = omega arith in
        fewer s (length piece) 1 (subst (λ n. free s n) e room.enough)

    -- If a piece has room, the encoder can count its place after it.
    pub piece_small : {s : S} {start : ℕ} {at : Standing} {f : Bool} (piece : List ℕ) → length piece + at.code < 255 → HasFrameRoom held free s start at f piece
        → at.code_at + at.code + length piece < 2 ^ 64 - 1 - 2
    piece_small {at = at} piece short room =
        omega (arith, made_piece piece short room.holds, open_made room.holds.frame room.d at room.holds.stands, open_length room.holds.frame room.d at room.holds.stands, room.few)

-- A storage that grew by as many bytes as are no longer free is one that pushes may leave.
pub grown_leaves : {S : Type 0} {held : S → List ℕ} {free : S → ℕ → Type 0} {reaches : S → S → Type 0} {s t : S} {f : Bool} (m : ℕ) → IsFalse f → reaches s t
    → length (held t) ≡ length (held s) + m → ((n : ℕ) → free s (m + n) → free t n) → LeavesFrame held free reaches s f t false
grown_leaves {free = free} {s = s} m going inner l keeps = record {
  inner = inner;
  stays_failed = λ failed. absurd (not_both failed going);
  grows = λ _. omega (arith, l);
  keeps_free = λ _ k n e h. let z : k + n ≡ m + n = omega (arith, l, e) in keeps n (subst (λ i. free s i) z h);
}

-- If the rest from a place on has room, so has a front of that rest.
pub room_of_next : {S : Type 0} {held : S → List ℕ} {free : S → ℕ → Type 0} {s : S} {start : ℕ} {at : Standing} {f : Bool} → ((s : S) (m n : ℕ) → free s (m + n) → free s m)
    → (xs : List ℕ) (i n : ℕ) → HasFrameRoom held free s start at f (drop i xs) → HasFrameRoom held free s start at f (take n (take (length xs - i) (drop i xs)))
room_of_next {held = held} {free = free} {s = s} {start = start} {at = at} {f = f} fewer xs i n r =
    let rest = take (length xs - i) (drop i xs) in
    room_of_front fewer (take n rest) (drop n rest) (subst (λ z. HasFrameRoom held free s start at f z) (sym (take_rest xs i) ∙ sym (take-append-drop n rest)) r)

-- A list that isn't empty is its first byte and the rest.
pub first_and_rest : (xs : List ℕ) → 0 < length xs → xs ≡ (get_or xs 0 0 ∷ []) ++ drop 1 xs
first_and_rest [] l = absurd (omega (arith, l))
first_and_rest (x ∷ xs) l = refl

-- The bytes before place i, followed by those from i up to j, are the bytes before place j.
pub take_further : (xs : List ℕ) (i j : ℕ) → i < j → take i xs ++ take (j - i) (drop i xs) ≡ take j xs
take_further xs i j l = let e : i + (j - i) ≡ j = omega (arith, l) in sym (take-add i (j - i) xs) ∙ ap (λ k. take k xs) e

-- An open frame of the data up to place i and the bytes from there up to j is one of the data up to
-- place j.
pub holds_further : {S : Type 0} {held : S → List ℕ} {s : S} {start : ℕ} {at : Standing} {f : Bool} (before d xs : List ℕ) (i j : ℕ) → i < j
    → HoldsOpen held s start at f before ((d ++ take i xs) ++ take (j - i) (drop i xs)) → HoldsOpen held s start at f before (d ++ take j xs)
holds_further {held = held} {s = s} {start = start} {at = at} {f = f} before d xs i j l h =
    subst (λ z. HoldsOpen held s start at f before z) (append_assoc d (take i xs) (take (j - i) (drop i xs)) ∙ ap (λ z. d ++ z) (take_further xs i j l)) h

-- The bytes from a place up to the place after so many, and a front of the rest of that length.
pub front_of_rest : (xs : List ℕ) (i n : ℕ) → take ((i + n) - i) (drop i xs) ≡ take n (take (length xs - i) (drop i xs))
front_of_rest xs i n = let e : (i + n) - i ≡ n = omega arith in rw (e, take_rest xs i) refl

-- The bytes from a place up to the next, and the first byte of the rest.
pub first_of_rest : (xs : List ℕ) (i : ℕ) → i < length xs → take ((i + 1) - i) (drop i xs) ≡ get_or (take (length xs - i) (drop i xs)) 0 0 ∷ []
first_of_rest xs i l =
    let e : (i + 1) - i ≡ 1 = omega arith in
    let n : 0 < length (drop i xs) = omega (arith, length-drop i xs) in
    rw (e, take_rest xs i) (ap (take 1) (first_and_rest (drop i xs) n))
