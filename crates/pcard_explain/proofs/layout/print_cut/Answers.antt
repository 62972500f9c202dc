-- The text is written whole, or as a prefix and `..`, and then a line feed.
use Rattle.std.proofs.Common.{[], ◌∷◌, ◌++◌, inl, inr, refl, sym, arith, length-append}
use Rattle.std.proofs.KnownBytes.{Appends-trans}
use Rattle.std.proofs.lemmas.List.{append_assoc, take-append-drop}
use Rattle.std.proofs.lemmas.Result.{on_ok_weaker}
use Rattle.pcard_explain.proofs.layout.print_cut.Goals as goal

pub returns-then-layout : goal.returns-then-layout
returns-then-layout g c =
    on_ok_weaker c.write_all-then-layout.result
    (λ h. (
      c.args.text.now,
      inl refl,
      λ cut room. grind (arith),
      Appends-trans _ _ _ _ _ (rw c.as_bytes.ensures.value at c.in_ok-write_all.ensures.bytes) h,
    ))
    c.write_all-then-layout.ensures.bytes

pub returns : goal.returns
returns g c =
    let front = c.split_at.result.0.now in
    let back = c.split_at.result.1.now in
    on_ok_weaker c.write_all-3.result
    (λ h. (
      front ++ 46 ∷ 46 ∷ [],
      inr (c.if-layout.false, (front, back, rw (c.split_at.ensures.front, c.split_at.ensures.back) (sym (take-append-drop _ _)), refl)),
      λ cut room. omega (arith, length-append front (46 ∷ 46 ∷ [])),
      rw (append_assoc front (46 ∷ 46 ∷ []) (10 ∷ [])) (Appends-trans _ _ _ _ _ (rw c.as_bytes-2.ensures.value at c.in_ok-write_all-2.ensures.bytes) h),
    ))
    c.write_all-3.ensures.bytes
