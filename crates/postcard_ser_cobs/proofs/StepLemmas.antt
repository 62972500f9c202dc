-- What the encoder's result for one byte does to a storage that holds an open frame.
use Rattle.std.proofs.Common.{◌≡◌, ℕ, ◌+◌, ◌-◌, ◌^◌, ◌<◌, suc, List, [], ◌∷◌, ◌++◌, length, Bool, IsFalse, Result, Ok, Err, OnOk, ap, subst, ◌∙◌, append-nil, append_assoc, length-append, length-set, arith}
use Rattle.std.specs.Prelude.{slice_set, flat_map}
use Rattle.std.specs.Result.{is_err}
use Rattle.postcard_cobs.specs.declared.encode.PushResult.{PushResult}
use Rattle.postcard_cobs.specs.declared.encode.PushResult.TheVariants.{AddSingle, ModifyFromStartAndSkip, ModifyFromStartAndPushAndSkip}
use Rattle.postcard_cobs.specs.Groups.{IsOpen, Standing, made, coded}
use Rattle.postcard_cobs.specs.Pushing.{changed, SetsAt}
use Rattle.postcard_cobs.proofs.Encoding.{open_length, open_finishes}
use Rattle.postcard_ser_cobs.specs.Steps.{growth, SetsBelow, changed_from}
use Rattle.postcard_ser_cobs.specs.Framing.{HoldsOpen, HasFrameRoom}
use Rattle.postcard_ser_cobs.specs.FramingLaws.{open_made, made_grows}

-- Carrying out a result adds as many bytes as its growth.
pub changed_length : (L : List ℕ) (r : PushResult) → length (changed L r) ≡ length L + growth r
changed_length L (AddSingle b) = omega (arith, length-append L (b ∷ []))
changed_length L (ModifyFromStartAndSkip p) = omega (arith, length-append (slice_set L p.0 p.1) (0 ∷ []), length-set L p.0 p.1)
changed_length L (ModifyFromStartAndPushAndSkip p) = omega (arith, length-append (slice_set L p.0 p.1) (p.2 ∷ 0 ∷ []), length-set L p.0 p.1)

-- The place that a result sets is held if the place of the open code is.
pub sets_below : (r : PushResult) (start i n : ℕ) → SetsAt i r → start + i < n → SetsBelow start n r
sets_below (AddSingle b) start i n e h = tt
sets_below (ModifyFromStartAndSkip p) start i n e h = omega (arith, e, h)
sets_below (ModifyFromStartAndPushAndSkip p) start i n e h = omega (arith, e, h)

-- The place of the open code is inside the frame.
pub code_below : (L d : List ℕ) (at : Standing) → IsOpen L at d → at.code_at < length L
code_below L d at h = omega (arith, h.code_at_is, ap length h.frame_is, length-append (flat_map coded h.before) (h.unwritten ∷ h.last))

-- A storage that holds an open frame after other bytes holds the place of the open code.
pub code_held : {S : Type 0} {held : S → List ℕ} {s : S} {start : ℕ} {at : Standing} {f : Bool} {before d : List ℕ} → HoldsOpen held s start at f before d → start + at.code_at < length (held s)
code_held {before = before} {d = d} h = omega (arith, h.starts, ap length h.held_is, length-append before h.frame, code_below h.frame d _ h.stands)

-- If a byte of data has room, as many bytes as its result adds are free.
pub step_free : {S : Type 0} {held : S → List ℕ} {free : S → ℕ → Type 0} {s : S} {start : ℕ} {at at' : Standing} {f : Bool} {b : ℕ} (r : PushResult)
    → ((s : S) (m n : ℕ) → free s (m + n) → free s m) → (room : HasFrameRoom held free s start at f (b ∷ []))
    → ((L d : List ℕ) → IsOpen L at d → IsOpen (changed L r) at' (d ++ b ∷ [])) → free s (growth r)
step_free {held} {free} {s} {start} {at} {at'} {f} {b} r fewer room push =
    let L = room.holds.frame in let d = room.d in
    let m = open_made L d at room.holds.stands in
    let n = open_made (changed L r) (d ++ b ∷ []) at' (push L d room.holds.stands) in
    let l = changed_length L r in
    let e : length (made (d ++ b ∷ [])) - length (made d) + 1 ≡ growth r + 1 = omega arith in
    fewer s (growth r) 1 (subst (λ n. free s n) e room.enough)

-- If a byte of data has room, the encoder can count its place.
pub place_small : {S : Type 0} {held : S → List ℕ} {free : S → ℕ → Type 0} {s : S} {start : ℕ} {at : Standing} {f : Bool} (b : ℕ) → HasFrameRoom held free s start at f (b ∷ []) → at.code_at + at.code < 2 ^ 64 - 1 - 2
place_small {at = at} b room =
    omega (arith, open_made room.holds.frame room.d at room.holds.stands, open_length room.holds.frame room.d at room.holds.stands, made_grows room.d (b ∷ []), room.few)

-- If no data has room, one byte is free for the zero that ends the frame.
pub end_free : {S : Type 0} {held : S → List ℕ} {free : S → ℕ → Type 0} {s : S} {start : ℕ} {at : Standing} {f : Bool} → HasFrameRoom held free s start at f [] → free s 1
end_free {free = free} {s = s} room =
    let q : length (made (room.d ++ [])) ≡ length (made room.d) = ap (λ z. length (made z)) (append-nil room.d) in
    let e : length (made (room.d ++ [])) - length (made room.d) + 1 ≡ 1 = omega arith in
    subst (λ n. free s n) e room.enough

-- A byte set after other bytes is set in the frame.
pub set_behind : (before frame : List ℕ) (i b : ℕ) → slice_set (before ++ frame) (length before + i) b ≡ before ++ slice_set frame i b
set_behind [] frame i b = let e : 0 + i ≡ i = omega arith in ap (λ (k : ℕ). slice_set frame k b) e
set_behind (x ∷ before) frame i b =
    let e : length (x ∷ before) + i ≡ suc (length before + i) = omega arith in
    ap (λ (k : ℕ). slice_set (x ∷ (before ++ frame)) k b) e ∙ ap (λ (z : List ℕ). x ∷ z) (set_behind before frame i b)

-- A result carried out after other bytes changes only the frame.
pub changed_behind : (before L : List ℕ) (r : PushResult) → changed_from (length before) (before ++ L) r ≡ before ++ changed L r
changed_behind before L (AddSingle b) = append_assoc before L (b ∷ [])
changed_behind before L (ModifyFromStartAndSkip p) = ap (λ z. z ++ 0 ∷ []) (set_behind before L p.0 p.1) ∙ append_assoc before (slice_set L p.0 p.1) (0 ∷ [])
changed_behind before L (ModifyFromStartAndPushAndSkip p) = ap (λ z. z ++ p.2 ∷ 0 ∷ []) (set_behind before L p.0 p.1) ∙ append_assoc before (slice_set L p.0 p.1) (p.2 ∷ 0 ∷ [])

-- After a result is carried out the frame is open, with the byte as data.
pub step_holds : {S : Type 0} {held : S → List ℕ} {s t : S} {start : ℕ} {at at' : Standing} {f f' : Bool} {b : ℕ} (r : PushResult) {before d : List ℕ}
    → IsFalse f' → held t ≡ changed_from start (held s) r
    → ((L d : List ℕ) → IsOpen L at d → IsOpen (changed L r) at' (d ++ b ∷ []))
    → HoldsOpen held s start at f before d → HoldsOpen held t start at' f' before (d ++ b ∷ [])
step_holds r {before = before} {d = d} going is push h = record {
  going = going;
  frame = changed h.frame r;
  held_is = is ∙ (λ i. changed_from (h.starts i) (h.held_is i) r) ∙ changed_behind before h.frame r;
  starts = h.starts;
  stands = push h.frame d h.stands;
}

-- The open frame, with its last code set and a zero after it, is the made frame.
pub ends : {S : Type 0} {held : S → List ℕ} {s : S} {start : ℕ} {at : Standing} {f : Bool} {before d : List ℕ} (h : HoldsOpen held s start at f before d)
    → slice_set (held s) (start + at.code_at) at.code ++ 0 ∷ [] ≡ before ++ made d
ends {at = at} {before = before} {d = d} h =
    let e : slice_set (before ++ h.frame) (length before + at.code_at) at.code ≡ before ++ slice_set h.frame at.code_at at.code = set_behind before h.frame at.code_at at.code in
    (λ i. slice_set (h.held_is i) (h.starts i + at.code_at) at.code ++ 0 ∷ []) ∙ ap (λ z. z ++ 0 ∷ []) e
    ∙ append_assoc before (slice_set h.frame at.code_at at.code) (0 ∷ []) ∙ ap (λ z. before ++ z) (open_finishes h.frame d at h.stands)

-- What a success promises holds if the result is no error.
pub succeeded : {T E P : Type 0} (r : Result T E) → IsFalse (is_err r) → OnOk r P → P
succeeded (Ok x) f p = p
succeeded (Err e) f p = absurd (cc)
