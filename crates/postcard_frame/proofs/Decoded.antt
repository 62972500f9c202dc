-- What a buffer holds after the frame at its front was decoded in place.
use Rattle.std.proofs.Common.{◌≡◌, ℕ, ◌+◌, ◌-◌, ◌<◌, ◌≤◌, ◌⊎◌, inl, inr, List, [], ◌∷◌, ◌++◌}
use Rattle.std.proofs.Common.{length, take, drop, refl, sym, ap, subst, ◌∙◌, arith, append-nil}
use Rattle.std.proofs.Common.{length-append}
use Rattle.std.proofs.lemmas.List.{take_at, take-append-drop, take-take, length-take-le, length-drop, drop-drop}
use lib.Seq.{take-add}
use Rattle.std.specs.Prelude.{flat_map}
use Rattle.postcard_cobs.specs.Groups.{Groups, coded, before_zero, made}
use Rattle.postcard_cobs.specs.InPlace.{LeavesData}
use Rattle.postcard_cobs.proofs.Decoding.{before_zero_front}
use Rattle.postcard_cobs.proofs.Made.{made_decodes}
use Rattle.postcard_frame.specs.Buffer.{from_zero, KeepsFromZero, KeepsZero, HasDataOf}
use Rattle.postcard_frame.specs.Parts.{IsDecoded}
use Rattle.postcard_frame.specs.declared.cobs.Decoded.{Decoded}

-- A made frame without its zero is a frame.
pub made_is_frame : (frame d : List ℕ) → frame ≡ before_zero (made d) → Groups frame d
made_is_frame frame d e =
    let same = ap before_zero (append-nil (made d)) ∙ sym e in
    subst (λ (f : List ℕ). Groups f d) same (made_decodes d [])

-- A frame that has data is not empty.
not_empty : (frame d : List ℕ) → Groups frame d → 0 < length frame
not_empty frame d g =
    let e : length frame ≡ length (flat_map coded g.before ++ coded g.last) = ap length g.frame_is in
    let s = length-append (flat_map coded g.before) (coded g.last) in omega (arith, e, s)

-- The number of bytes of a zero that may follow, and those bytes.
one_taken : (xs : List ℕ) → 0 < length xs → length (take 1 xs) ≡ 1
one_taken [] l = absurd (omega (arith, l))
one_taken (x ∷ xs) l = refl

none_taken : (xs : List ℕ) → length xs ≡ 0 → length (take 1 xs) ≡ 0
none_taken [] e = refl
none_taken (x ∷ xs) e = absurd (omega (arith, e))

take_taken : (xs : List ℕ) → take (length (take 1 xs)) xs ≡ take 1 xs
take_taken [] = refl
take_taken (x ∷ xs) = refl

drop_taken : (xs : List ℕ) → drop (length (take 1 xs)) xs ≡ drop 1 xs
drop_taken [] = refl
drop_taken (x ∷ xs) = refl

-- What `decode` returns after a success, from what `decode_in_place_report` says.
pub is_decoded : (old : List ℕ) (d : Decoded) (frame zeros : ℕ)
    → length d.all.now ≡ length old
    → drop (length (before_zero old)) d.all.now ≡ from_zero old
    → frame ≡ length (before_zero old) → LeavesData old d.all.now d.len
    → d.len ≤ frame → frame ≤ length d.all.now → d.end ≡ frame + zeros
    → ((frame < length d.all.now) × (zeros ≡ 1))
    ⊎ ((length d.all.now ≤ frame) × (zeros ≡ 0)) → IsDecoded old d
is_decoded old d frame zeros long past is left behind inside end zero_is =
    let data_is : take d.len d.all.now ≡ left.0 =
    ap (take d.len) left.3 ∙ take_at left.0 (drop (length left.0) old) d.len (sym left.2) in
    let groups : Groups (before_zero old) (take d.len d.all.now) =
    subst (λ (x : List ℕ). Groups (before_zero old) x) (sym data_is) left.1 in
    let some = not_empty (before_zero old) (take d.len d.all.now) groups in
    let rest : length (from_zero old) ≡ length old - length (before_zero old) =
    length-drop (length (before_zero old)) old in
    let zeros_are : zeros ≡ length (take 1 (from_zero old)) = elim zero_is [
      | inl z ↦ z.1 ∙ sym (one_taken (from_zero old) (omega (arith, z.0, long, is, rest)))
      | inr z ↦ z.1 ∙ sym (none_taken (from_zero old)
          (omega (arith, z.0, long, is, rest)))
    ] in
    let most : zeros ≤ length (from_zero old) = elim zero_is [
      | inl z ↦ omega (arith, z.0, z.1, long, is, rest)
      | inr z ↦ omega (arith, z.1)
    ] in
    record {
      as_long = long;
      past_frame = past;
      within = (omega (arith, behind, end), omega (arith, end, most, long, is, rest, inside));
      end_is = λ _. end ∙ ap (λ (n : ℕ). n + zeros) is
          ∙ ap (λ (n : ℕ). length (before_zero old) + n) zeros_are;
      decodes = λ _. groups;
      no_data = λ none. absurd (omega (arith, none, end, is, some));
    }

module _ (old : List ℕ) (d : Decoded) (is : IsDecoded old d) where
  abbrev n : ℕ
  n = length (before_zero old)

  -- The frame's place in the buffer has as many bytes as the frame.
  as_many : length (take n d.all.now) ≡ n
  as_many = length-take-le n d.all.now (let l = (before_zero_front old).0 in let e = is.as_long in omega (arith, l, e))

  -- The front that is split off has the data, and is empty if there is none.
  pub has_data : HasDataOf (before_zero old) (take d.end d.all.now) d.len
  has_data =
      let long : length (take d.end d.all.now) ≡ d.end = length-take-le d.end d.all.now is.within.1 in (
        (λ e. is.no_data (sym long ∙ e)),
        (λ some. subst (λ (x : List ℕ). Groups (before_zero old) x)
            (sym (take-take d.len d.end d.all.now is.within.0)) (is.decodes (omega (arith, some, long)))),
      )

  -- The front and any rest are a buffer of which the zero is as it was.
  pub keeps_zero : 0 < d.end → (rest : List ℕ) → KeepsZero old rest (take d.end d.all.now ++ rest)
  keeps_zero some rest =
      let zero : List ℕ = take 1 (from_zero old) in
      let e : take d.end d.all.now ≡ take n d.all.now ++ zero =
      ap (λ (k : ℕ). take k d.all.now) (is.end_is some) ∙ take-add n (length zero) d.all.now
      ∙ ap (λ (x : List ℕ). take n d.all.now ++ take (length zero) x) is.past_frame
      ∙ ap (λ (x : List ℕ). take n d.all.now ++ x) (take_taken (from_zero old)) in (
        take n d.all.now,
        as_many,
        ap (λ (x : List ℕ). x ++ rest) e,
      )

  -- The front and the rest that was split off are the buffer, whose bytes from the zero on are as
  -- they were.
  pub keeps_all : KeepsFromZero old (take d.end d.all.now ++ drop d.end d.all.now)
  keeps_all = (
    take n d.all.now,
    as_many,
    take-append-drop d.end d.all.now ∙ sym (take-append-drop n d.all.now)
        ∙ ap (λ (x : List ℕ). take n d.all.now ++ x) is.past_frame,
  )

  -- The rest that was split off is what follows the zero.
  pub rest_is : 0 < d.end → drop d.end d.all.now ≡ drop (n + 1) old
  rest_is some =
      ap (λ (k : ℕ). drop k d.all.now) (is.end_is some) ∙ sym (drop-drop (length (take 1 (from_zero old))) n d.all.now)
      ∙ ap (drop (length (take 1 (from_zero old)))) is.past_frame ∙ drop_taken (from_zero old)
      ∙ drop-drop 1 n old

  -- The data lies in the front that is split off.
  pub data_within : d.len ≤ length (take d.end d.all.now)
  data_within =
      let long : length (take d.end d.all.now) ≡ d.end = length-take-le d.end d.all.now is.within.1 in
      let inside = is.within.0 in omega (arith, long, inside)
