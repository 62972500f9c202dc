-- Pieces: bytes in a row, zeros among them, that are pushed as they are before the encoder takes them.
use Rattle.std.proofs.Common.{◌≡◌, ℕ, ◌+◌, ◌<◌, ◌≤◌, List, [], ◌∷◌, ◌++◌, length, Bool, IsFalse, take, drop, get_or, sym, ap, subst, ◌∙◌, append_assoc, append-nil, length-append, arith}
use Rattle.std.specs.Prelude.{slice_set}
use Rattle.std.proofs.lemmas.List.{set-append_left, take_more, drop_more}
use Rattle.postcard_cobs.specs.declared.encode.PushResult.{PushResult}
use Rattle.postcard_cobs.specs.declared.encode.PushResult.TheVariants.{AddSingle, ModifyFromStartAndSkip}
use Rattle.postcard_cobs.specs.Groups.{IsOpen, Standing}
use Rattle.postcard_cobs.specs.Pushing.{changed}
use Rattle.postcard_cobs.proofs.Encoding.{open_length}
use Rattle.postcard_ser_cobs.specs.Framing.{HoldsOpen, HoldsThen}
use Rattle.postcard_ser_cobs.proofs.StepLemmas.{code_below, set_behind}

module _ {S : Type 0} {held : S → List ℕ} where
  -- A byte after the open frame for which no code is set is taken as it is.
  pub taken_as_it_is : {s : S} {start : ℕ} {at at' : Standing} {b : ℕ} {before d x : List ℕ} (r : PushResult) → r ≡ AddSingle b
      → ((L d : List ℕ) → IsOpen L at d → IsOpen (changed L r) at' (d ++ b ∷ []))
      → HoldsThen held s start at before d (b ∷ x) → HoldsThen held s start at' before (d ++ b ∷ []) x
  taken_as_it_is {at' = at'} {b = b} {before = before} {d = d} {x = x} r is push h = record {
    frame = h.frame ++ b ∷ [];
    held_is = h.held_is ∙ ap (λ z. before ++ z) (sym (append_assoc h.frame (b ∷ []) x));
    starts = h.starts;
    stands = subst (λ z. IsOpen (changed h.frame z) at' (d ++ b ∷ [])) is (push h.frame d h.stands);
  }

  -- A zero after the open frame is the place of the next code, once the code before it is set.
  pub taken_as_place : {s t : S} {start : ℕ} {at at' : Standing} {b : ℕ} {before d x : List ℕ} (r : PushResult) (place code : ℕ) → r ≡ ModifyFromStartAndSkip (place, code)
      → b ≡ 0 → place ≡ at.code_at → held t ≡ slice_set (held s) (start + place) code
      → ((L d : List ℕ) → IsOpen L at d → IsOpen (changed L r) at' (d ++ b ∷ []))
      → HoldsThen held s start at before d (b ∷ x) → HoldsThen held t start at' before (d ++ b ∷ []) x
  taken_as_place {at = at} {at' = at'} {b = b} {before = before} {d = d} {x = x} r place code is zero here sets push h =
      let below : place < length h.frame = omega (arith, here, code_below h.frame d at h.stands) in
      let inside : slice_set (h.frame ++ b ∷ x) place code ≡ (slice_set h.frame place code ++ 0 ∷ []) ++ x =
      set-append_left h.frame (b ∷ x) place code below ∙ ap (λ (c : ℕ). slice_set h.frame place code ++ c ∷ x) zero
      ∙ sym (append_assoc (slice_set h.frame place code) (0 ∷ []) x) in
      record {
        frame = slice_set h.frame place code ++ 0 ∷ [];
        held_is = sets ∙ (λ i. slice_set (h.held_is i) (h.starts i + place) code) ∙ set_behind before (h.frame ++ b ∷ x) place code ∙ ap (λ z. before ++ z) inside;
        starts = h.starts;
        stands = subst (λ z. IsOpen (changed h.frame z) at' (d ++ b ∷ [])) is (push h.frame d h.stands);
      }

  -- The next byte of a piece is the one at the current place.
  pub next_taken : {s t : S} {start : ℕ} {at at' : Standing} (before d xs : List ℕ) (i : ℕ) → i < length xs
      → ((x : List ℕ) → HoldsThen held s start at before (d ++ take i xs) (get_or xs i 0 ∷ x) → HoldsThen held t start at' before ((d ++ take i xs) ++ get_or xs i 0 ∷ []) x)
      → HoldsThen held s start at before (d ++ take i xs) (drop i xs) → HoldsThen held t start at' before (d ++ take (i + 1) xs) (drop (i + 1) xs)
  next_taken {s} {t} {start} {at} {at'} before d xs i l one h =
      subst (λ z. HoldsThen held t start at' before z (drop (i + 1) xs)) (append_assoc d (take i xs) (get_or xs i 0 ∷ []) ∙ ap (λ z. d ++ z) (sym (take_more xs i 0 l)))
      (one (drop (i + 1) xs) (subst (λ z. HoldsThen held s start at before (d ++ take i xs) z) (drop_more xs i 0 l) h))

  -- A piece pushed after an open frame, with its codes set, is data of the open frame.
  pub piece_holds : {s t u : S} {start : ℕ} {at mid at' : Standing} {f f' : Bool} (piece : List ℕ) {before d : List ℕ} → IsFalse f' → held t ≡ held s ++ piece → mid ≡ at
      → ((before d : List ℕ) → HoldsThen held t start mid before d piece → HoldsThen held u start at' before (d ++ piece) [])
      → HoldsOpen held s start at f before d → HoldsOpen held u start at' f' before (d ++ piece)
  piece_holds {s} {t} {u} {start} {at} {mid} {at'} piece {before} {d} going is same codes h =
      let pushed : HoldsThen held t start mid before d piece = record {
        frame = h.frame;
        held_is = is ∙ ap (λ z. z ++ piece) h.held_is ∙ append_assoc before h.frame piece;
        starts = h.starts;
        stands = subst (λ z. IsOpen h.frame z d) (sym same) h.stands;
      } in
      let r = codes before d pushed in
      record {
        going = going;
        frame = r.frame;
        held_is = r.held_is ∙ ap (λ z. before ++ z) (append-nil r.frame);
        starts = r.starts;
        stands = r.stands;
      }

  -- The storage holds at least the bytes up to the encoder's place.
  pub holds_length : {s : S} {start : ℕ} {at : Standing} {f : Bool} {before d : List ℕ} → HoldsOpen held s start at f before d → start + (at.code_at + at.code) ≤ length (held s)
  holds_length {at = at} {before = before} {d = d} h = omega (arith, h.starts, ap length h.held_is, length-append before h.frame, open_length h.frame d at h.stands)
