-- The digits of a number written over the front of the free bytes.
use Rattle.std.proofs.Common.{◌≡◌, ℕ, ◌+◌, ◌-◌, ◌≤◌, List, [], ◌++◌, length, take, drop, sym, ap, ◌∙◌, append-nil, arith}
use Rattle.std.proofs.lemmas.List.{length-take-le, length-drop, take_all, take-append-le, drop-append-le, drop-drop}
use Rattle.std.proofs.Math.ListN.{drop_of_length-le}
use Rattle.std.proofs.Math.Seq.{take-append-add, drop-append-add}
use Rattle.postcard_wire.specs.Number.{digits}

-- If the first k bytes of a part from place `pos` on are written as d, the front is the bytes before and d.
pub written_after : (pos k len : ℕ) (all out d : List ℕ) → pos ≤ length all → k ≤ length out → take k out ≡ d →
    take (pos + k) (take pos all ++ (out ++ drop len (drop pos all))) ≡ take pos all ++ d
written_after pos k len all out d within few written =
    let long : length (take pos all) ≡ pos = length-take-le pos all within in
    let post = drop len (drop pos all) in
    let e : take (length (take pos all) + k) (take pos all ++ (out ++ post)) ≡ take pos all ++ take k (out ++ post) = take-append-add (take pos all) (out ++ post) k in
    let f : take k (out ++ post) ≡ take k out = take-append-le k out post few in
    (rw long at e) ∙ cc

-- The free bytes are all bytes from their place on.
all_free : (pos : ℕ) (all : List ℕ) → take (length all - pos) (drop pos all) ≡ drop pos all
all_free pos all = take_all (length all - pos) (drop pos all) (omega (arith, length-drop pos all))

-- If as many bytes are free as a number has digits, these fit.
pub fits_here : (n pos : ℕ) (all : List ℕ) → length (digits n) ≤ length all - pos → length (digits n) ≤ length (take (length all - pos) (drop pos all))
fits_here n pos all r = rw (all_free pos all) (omega (arith, length-drop pos all, r))

-- Here k bytes, which are d, are written over the front of the free bytes, and count bytes of the
-- buffer were held.
module _ (pos k : ℕ) (all out buffer d : List ℕ) (count : ℕ) (within : pos ≤ length all) (few : k ≤ length out) (same : all ≡ buffer) (place : pos ≡ count) (written : take k out ≡ d) where
  abbrev pub after : List ℕ
  after = take pos all ++ (out ++ drop (length all - pos) (drop pos all))

  long : length (take pos all) ≡ pos
  long = length-take-le pos all within

  -- The bytes then held are those held before, followed by d.
  pub held_here : take (pos + k) after ≡ take count buffer ++ d
  held_here = written_after pos k (length all - pos) all out d within few written ∙ cc

  -- The bytes after those written are unchanged.
  pub behind_here : drop k out ≡ drop k (take (length all - pos) (drop pos all)) → drop (pos + k) after ≡ drop (pos + k) buffer
  behind_here stays =
      let post = drop (length all - pos) (drop pos all) in
      let none : post ≡ [] = drop_of_length-le (drop pos all) (omega (arith, length-drop pos all)) in
      let e : drop (length (take pos all) + k) (take pos all ++ (out ++ post)) ≡ drop k (out ++ post) = drop-append-add (take pos all) (out ++ post) k in
      let f : drop k (out ++ post) ≡ drop k out ++ post = drop-append-le k out post few in
      let g : drop k out ++ [] ≡ drop k out = append-nil (drop k out) in
      let a : take (length all - pos) (drop pos all) ≡ drop pos all = all_free pos all in
      let j : drop k (drop pos all) ≡ drop (pos + k) all = drop-drop k pos all in
      (rw long at e) ∙ cc

  -- The bytes then free are those free before, without as many as d has.
  pub free_here : drop k out ≡ drop k (take (length all - pos) (drop pos all)) → drop (pos + k) after ≡ drop (length d) (drop count buffer)
  free_here stays =
      let n : length d ≡ k = ap length (sym written) ∙ length-take-le k out few in
      let j : drop k (drop pos buffer) ≡ drop (pos + k) buffer = drop-drop k pos buffer in
      behind_here stays ∙ cc
