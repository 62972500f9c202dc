-- A lemma on a buffer that is filled from its start, by writing into the part after a place.
use Rattle.std.proofs.Common.{◌≡◌, ℕ, ◌+◌, ◌≤◌, List, ◌++◌, length, take, sym, ap, ◌∙◌, length-take-le}
use Rattle.std.proofs.Math.Seq.{take-append-add}
use Rattle.std.proofs.lemmas.List.{take-append-le}
use borrow.Rule.Slice.PartMut.{put_mid, post_of}

-- Once n bytes are written from place a on, the first a + n bytes are the first a bytes from before and these n.
pub front_filled : (a k n : ℕ) (xs ys : List ℕ) → a ≤ length xs → n ≤ length ys → take (a + n) (put_mid a k xs ys) ≡ take a xs ++ take n ys
front_filled a k n xs ys within fits =
    let after = post_of a k xs in
    ap (λ m. take (m + n) (take a xs ++ (ys ++ after))) (sym (length-take-le a xs within))
    ∙ take-append-add (take a xs) (ys ++ after) n ∙ ap (λ l. take a xs ++ l) (take-append-le n ys after fits)
