-- Where a stream is cut: at its first zero, and at the end of a frame.
use Rattle.std.proofs.Common.{◌≡◌, ℕ, ◌⊎◌, inl, inr, List, [], ◌∷◌, ◌++◌, refl, sym, ap, subst, ◌∙◌}
use Rattle.std.proofs.Common.{append_assoc, arith, eqb, false, zero, suc}
use Rattle.std.specs.Prelude.{flat_map}
use Rattle.std.proofs.lemmas.Bool.{ne_eqb}
use Rattle.std.proofs.lemmas.List.{append-nil}
use Rattle.postcard_cobs.specs.Groups.{NoZero, EndsFrame, before_zero}
use Rattle.postcard_cobs.proofs.Made.{NoZero-append, NoZero-right}
use Rattle.postcard_accumulator.specs.Streams.{AreZeroFree, ended, IsSplit}
use Rattle.postcard_accumulator.specs.Laws.{EndsInZero, FramesAreOne}

-- The first zero of a list is before every other.
pub zero_cut : (f w more v : List ℕ) → NoZero f → f ++ 0 ∷ more ≡ w ++ 0 ∷ v
    → ((w ≡ f) × (more ≡ v)) ⊎ ((t : List ℕ) × (w ≡ f ++ 0 ∷ t) × (more ≡ t ++ 0 ∷ v))
zero_cut [] [] more v z e = inl (refl, cc)
zero_cut [] (y ∷ w) more v z e =
    let heads : y ≡ 0 = cc in
    let tails : more ≡ w ++ 0 ∷ v = cc in
    inr (w, cc heads, tails)
zero_cut (x ∷ f) [] more v z e = let x0 : x ≡ 0 = cc in absurd (omega (arith, z.0))
zero_cut (x ∷ f) (y ∷ w) more v z e =
    let heads : x ≡ y = cc in
    let tails : f ++ 0 ∷ more ≡ w ++ 0 ∷ v = cc in
    elim (zero_cut f w more v z.1 tails) [
      | inl r ↦ inl (cc (heads, r.0), r.1)
      | inr r ↦ inr (r.0, cc (heads, r.1), r.2)
    ]

-- A piece that ends a frame has a zero.
pub has_zero : (p q r : List ℕ) → EndsFrame p q r → NoZero p → ⊥
has_zero p q r e z = at_zero q r (subst NoZero e.1 z) where
  at_zero : (q r : List ℕ) → NoZero (q ++ 0 ∷ r) → ⊥
  at_zero [] r z = absurd (omega (arith, z.0))
  at_zero (x ∷ q) r z = at_zero q r z.1

-- The frame at the front of bytes without a zero is all of them.
pub before_zero_all : (f : List ℕ) → NoZero f → before_zero f ≡ f
before_zero_all [] z = refl
before_zero_all (b ∷ f) z = let e : eqb b 0 ≡ false = ne_eqb b 0 (λ e. omega (arith, z.0)) in
    rw e (ap (λ (x : List ℕ). b ∷ x) (before_zero_all f z.1))

-- Two lists of frames without zeros, joined, are such a list, and both halves of such a list are
-- such lists.
pub AreZeroFree-append : (fs gs : List (List ℕ)) → AreZeroFree fs → AreZeroFree gs
    → AreZeroFree (fs ++ gs)
AreZeroFree-append [] gs a b = b
AreZeroFree-append (f ∷ fs) gs a b = (a.0, AreZeroFree-append fs gs a.1 b)

pub AreZeroFree-left : (fs gs : List (List ℕ)) → AreZeroFree (fs ++ gs) → AreZeroFree fs
AreZeroFree-left [] gs a = tt
AreZeroFree-left (f ∷ fs) gs a = (a.0, AreZeroFree-left fs gs a.1)

pub AreZeroFree-right : (fs gs : List (List ℕ)) → AreZeroFree (fs ++ gs) → AreZeroFree gs
AreZeroFree-right [] gs a = a
AreZeroFree-right (f ∷ fs) gs a = AreZeroFree-right fs gs a.1

-- A stream of frames begins with the first of them.
pub first : (g : List ℕ) (gs : List (List ℕ)) (q : List ℕ) → flat_map ended (g ∷ gs) ++ q ≡ g
    ++ 0 ∷ (flat_map ended gs ++ q)
first g gs q = append_assoc (ended g) (flat_map ended gs) q
    ∙ append_assoc g (0 ∷ []) (flat_map ended gs ++ q)

-- A front of a stream that ends in a zero consists of whole frames.
pub ends_cut : (u v : List ℕ) (fs : List (List ℕ)) (rest : List ℕ) → EndsInZero u → AreZeroFree fs
    → NoZero rest → u ++ v ≡ flat_map ended fs ++ rest →
    (gs hs : List (List ℕ)) × (fs ≡ gs ++ hs) × (u ≡ flat_map ended gs)
    × (v ≡ flat_map ended hs ++ rest)
ends_cut u v fs rest (inl nil) zf zr e =
    ([], fs, refl, nil, ap (λ (x : List ℕ). x ++ v) (sym nil) ∙ e)
ends_cut u v [] rest (inr w) zf zr e =
    let e2 : w.0 ++ 0 ∷ v ≡ rest = sym (append_assoc w.0 (0 ∷ []) v)
    ∙ ap (λ (x : List ℕ). x ++ v) (sym w.1) ∙ e in
    let no = NoZero-right w.0 (0 ∷ v) (subst NoZero (sym e2) zr) in
    absurd (omega (arith, no.0))
ends_cut u v (f ∷ fs) rest (inr w) zf zr e =
    let e2 : f ++ 0 ∷ (flat_map ended fs ++ rest) ≡ w.0 ++ 0 ∷ v =
    sym (first f fs rest) ∙ sym e ∙ ap (λ (x : List ℕ). x ++ v) w.1 ∙ append_assoc w.0 (0 ∷ []) v in
    elim (zero_cut f w.0 (flat_map ended fs ++ rest) v zf.0 e2) [
      | inl r ↦ (f ∷ [], fs, refl, w.1 ∙ ap ended r.0 ∙ sym (append-nil (ended f)), sym r.1)
      | inr r ↦
          let deep = ends_cut (r.0 ++ 0 ∷ []) v fs rest (inr (r.0, refl)) zf.1 zr
          (append_assoc r.0 (0 ∷ []) v ∙ sym r.2) in (
            f ∷ deep.0,
            deep.1,
            ap (λ (x : List (List ℕ)). f ∷ x) deep.2,
            w.1 ∙ ap ended r.1 ∙ append_assoc f (0 ∷ r.0) (0 ∷ [])
                ∙ sym (append_assoc f (0 ∷ []) (r.0 ++ 0 ∷ []))
                ∙ ap (λ (x : List ℕ). ended f ++ x) deep.3,
            deep.4,
          )
    ]

-- A stream is frames and a rest in at most one way.
pub split_one : (fs gs : List (List ℕ)) (r q : List ℕ) → AreZeroFree fs → AreZeroFree gs → NoZero r
    → NoZero q → flat_map ended fs ++ r ≡ flat_map ended gs ++ q → (fs ≡ gs) × (r ≡ q)
split_one [] [] r q zf zg zr zq e = (refl, e)
split_one [] (g ∷ gs) r q zf zg zr zq e =
    absurd (has_zero r g (flat_map ended gs ++ q) (zg.0, e ∙ first g gs q) zr)
split_one (f ∷ fs) [] r q zf zg zr zq e =
    absurd (has_zero q f (flat_map ended fs ++ r) (zf.0, sym e ∙ first f fs r) zq)
split_one (f ∷ fs) (g ∷ gs) r q zf zg zr zq e =
    elim (zero_cut f g (flat_map ended fs ++ r) (flat_map ended gs ++ q) zf.0
    (sym (first f fs r) ∙ e ∙ first g gs q)) [
      | inl c ↦ let s = split_one fs gs r q zf.1 zg.1 zr zq c.1 in (cc (c.0, s.0), s.1)
      | inr c ↦ absurd (has_zero g f c.0 (zf.0, c.1) zg.0)
    ]

-- Two splits of one stream are equal.
pub one_split : (s : List ℕ) (fs gs : List (List ℕ)) (r q : List ℕ) → IsSplit s fs r
    → IsSplit s gs q → (fs ≡ gs) × (r ≡ q)
one_split s fs gs r q p u =
    split_one fs gs r q p.frames_zero_free u.frames_zero_free p.rest_zero_free u.rest_zero_free
    (sym p.is ∙ u.is)

-- A stream that begins with h, which has no zero, is frames and a rest.
split_from : (h s : List ℕ) → NoZero h → (fs : List (List ℕ)) × (r : List ℕ) × IsSplit (h ++ s) fs r
split_from h [] z = ([], h, record { is = append-nil h; frames_zero_free = tt; rest_zero_free = z })
split_from h (zero ∷ s) z =
    let c = split_from [] s tt in (
      h ∷ c.0,
      c.1,
      record {
        is = ap (λ (x : List ℕ). h ++ 0 ∷ x) c.2.is ∙ sym (first h c.0 c.1);
        frames_zero_free = (z, c.2.frames_zero_free);
        rest_zero_free = c.2.rest_zero_free;
      },
    )
split_from h (suc b ∷ s) z =
    let c = split_from (h ++ suc b ∷ []) s (NoZero-append h (suc b ∷ []) z (omega arith, tt)) in (
      c.0,
      c.1,
      record {
        is = sym (append_assoc h (suc b ∷ []) s) ∙ c.2.is;
        frames_zero_free = c.2.frames_zero_free;
        rest_zero_free = c.2.rest_zero_free;
      },
    )

pub frames_are_one : FramesAreOne
frames_are_one s = (split_from [] s tt, λ fs gs r q p u. one_split s fs gs r q p u)
