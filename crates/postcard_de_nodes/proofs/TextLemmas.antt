-- Reading a text: a length, and that many bytes of UTF-8.
use Rattle.std.proofs.Common.{◌≡◌, ℕ, ◌+◌, ◌<◌, ◌≤◌, ◌^◌, inl, inr, List, ◌++◌, length, Ok}
use Rattle.std.proofs.Common.{refl, sym, ◌∙◌, ap, subst, arith, append_assoc, length-append}
use Rattle.std.specs.Prelude.{IsUtf8}
use Rattle.postcard_wire.specs.declared.error.Error.{Error}
use Rattle.postcard_wire.specs.declared.error.Error.TheVariants.{OutOfMemory}
use Rattle.postcard_wire.specs.declared.error.Error.TheVariants.{DeserializeUnexpectedEnd}
use Rattle.postcard_wire.specs.declared.error.Error.TheVariants.{DeserializeBadUtf8}
use Rattle.postcard_wire.specs.Number.{SpellsNum}
use Rattle.postcard_wire.specs.Tree.{Tree, Text}
use Rattle.postcard_wire.specs.Spelling.{Spells}
use Rattle.postcard_wire.specs.Reading.{IsText}
use Rattle.postcard_wire.proofs.Delimited.{num_front, text_delimited, same_front}
use Rattle.postcard_wire.proofs.Refused.{longer, none_spelled}
use Rattle.std.proofs.lemmas.List.{append_cancel_left}
use Rattle.postcard_shape.specs.Shape.{never}
use Rattle.postcard_de_flavors.specs.Source.{Left, Takes, Laws}
use Rattle.postcard_de_nodes.specs.Reads.{IsReadError, ReadsFrom}
use Rattle.postcard_de_nodes.specs.Refuses.{RefusesFrom, WantsDigit, BadNumber, WantsText, BadText}
use Rattle.postcard_shape.specs.Leaves.{Same}
use Rattle.postcard_de_nodes.specs.TakeLemmas.{both_taken}
use Rattle.postcard_de_nodes.specs.ReadLemmas.{Excludes, found, refused, refusal, widened}
use Rattle.postcard_de_nodes.specs.ReadLemmas.{ends_after_front}
use Rattle.postcard_de_nodes.specs.NumberLemmas.{Below, number_below, number_spelled}

-- If q is the length a and the bytes u, what begins with q begins with a and then with u.
pub facing_length : (p q a u y z : List ℕ) → q ≡ a ++ u → p ++ y ≡ q ++ z → p ++ y ≡ a ++ (u ++ z)
facing_length p q a u y z e f = f ∙ (ap (λ (l : List ℕ). l ++ z) e ∙ append_assoc a u z)

-- If more bytes are wanted, they are within the text's spelling.
text_within : (x : Tree) (p q : List ℕ) (n : ℕ) (y z : List ℕ) → WantsText p n → IsText x →
    Spells x q → p ++ y ≡ q ++ z → length p + n ≤ length q
text_within x p q n y z (inl wanted) r s e =
    let t : Spells (Text r.0) q = rw r.1 at s in
    let h = longer p t.0 y (t.1 ++ z) wanted.0 t.2.digits (facing_length p q t.0 t.1 y z t.4 e) in
    omega (arith, h, wanted.2, ap length t.4, length-append t.0 t.1)
text_within x p q n y z (inr wanted) r s e =
    let t : Spells (Text r.0) q = rw r.1 at s in
    let h = num_front 64 n (length r.0) p t.0 y (t.1 ++ z) wanted.0 t.2
    (facing_length p q t.0 t.1 y z t.4 e) in
    omega (arith, h.1, ap length h.0, ap length t.3, ap length t.4, length-append t.0 t.1)

-- A bad front begins no spelling of a text, unless memory ran out.
text_none : (G : Type 0) (x : Tree) (p q : List ℕ) (f : Error) (y z : List ℕ) → BadText G p f →
    IsText x → Spells x q → p ++ y ≡ q ++ z → f ≡ OutOfMemory
text_none G x p q f y z (inl bad) r s e =
    let t : Spells (Text r.0) q = rw r.1 at s in
    absurd (none_spelled 64 (length r.0) p t.0 y (t.1 ++ z) bad.1 t.2 r.3
    (facing_length p q t.0 t.1 y z t.4 e))
text_none G x p q f y z (inr (a, u, spelled, j, inr why)) r s e = why.0
text_none G x p q f y z (inr (a, u, spelled, j, inl why)) r s e =
    let t : Spells (Text r.0) q = rw r.1 at s in
    let g : a ++ (u ++ y) ≡ t.0 ++ (t.1 ++ z) = sym (append_assoc a u y)
    ∙ (ap (λ (l : List ℕ). l ++ y) (sym j) ∙ facing_length p q t.0 t.1 y z t.4 e) in
    let h = num_front 64 (length u) (length r.0) a t.0 (u ++ y) (t.1 ++ z) spelled t.2 g in
    let k : u ++ y ≡ t.1 ++ z = append_cancel_left a (u ++ y) (t.1 ++ z)
    (g ∙ ap (λ (l : List ℕ). l ++ (t.1 ++ z)) (sym h.0)) in
    let same = same_front u t.1 y z (h.1 ∙ ap length (sym t.3)) k in
    absurd (why.1 (subst IsUtf8 (sym (same ∙ t.3)) r.2))

-- The error for a bad front is one that a reading call may return.
text_named : (G : Error → Type 0) (p : List ℕ) (e : Error) → BadText (G OutOfMemory) p e
    → IsReadError G e
text_named G p e (inl bad) = subst (IsReadError G) (sym bad.0) tt
text_named G p e (inr (a, u, spelled, j, inl why)) = subst (IsReadError G) (sym why.0) tt
text_named G p e (inr (a, u, spelled, j, inr why)) = subst (IsReadError G) (sym why.0) why.2

-- The reasons to fail to read a text exclude a text at the front, unless memory ran out.
pub text_excludes : (G : Error → Type 0) → Excludes G WantsText (BadText (G OutOfMemory)) Spells IsText
text_excludes G = record {
  within = text_within;
  none = text_none (G OutOfMemory);
  named = text_named G;
}

module _ {S : Type 0} {left : S → Left} {able : S → ℕ → Type 0}
    {may_leave : S → S → Type 0} (laws : Laws left able may_leave) where
  -- A call with a reason to fail to read a text may return its error.
  pub text_refused : {V : Type 0} {value : Tree → V → Type 0} {G : Error → Type 0} {old new : S}
      {e : Error} → RefusesFrom WantsText (BadText (G OutOfMemory)) left able old e new → may_leave old new →
      ReadsFrom Spells IsText value G left able may_leave old (refusal V e) new
  text_refused {G = G} why l = refused laws (text_excludes G) why l

  -- If reading the length fails, reading the text fails with that error.
  pub length_refused : {G : Type 0} {old new : S} {e : Error} →
      RefusesFrom (WantsDigit 64) (BadNumber 64) left able old e new →
      RefusesFrom WantsText (BadText G) left able old e new
  length_refused why = widened (λ p n w. inl w) (λ p b. inl b) why

module _ {S : Type 0} {left : S → Left} {able : S → ℕ → Type 0}
    {may_leave : S → S → Type 0} (laws : Laws left able may_leave) {n : ℕ} {old mid : S}
    (counted : ReadsFrom (SpellsNum 64) (Below 64) Same never left able may_leave old (Ok n) mid) where
  -- If the bytes after the length can't be taken, that is a reason to fail.
  pub text_ends : {G : Type 0} {new : S} {e : Error} → (able mid n → ⊥) →
      e ≡ DeserializeUnexpectedEnd → RefusesFrom WantsText (BadText G) left able old e new
  text_ends lacks is = ends_after_front counted.gives.taken
      (inr (number_spelled laws counted, number_below laws counted)) lacks is

  module _ {u : List ℕ} {new : S} (long : length u ≡ n) (t : Takes left able mid u new) where
    -- The front that was taken spells the number of the bytes u.
    spelled_u : SpellsNum 64 (length u) counted.gives.front
    spelled_u = subst (λ (m : ℕ). SpellsNum 64 m counted.gives.front) (sym long)
        (number_spelled laws counted)

    -- If they aren't UTF-8, that is a reason to fail with `DeserializeBadUtf8`.
    pub text_bad : {G : Type 0} → (IsUtf8 u → ⊥) →
        RefusesFrom WantsText (BadText G) left able old DeserializeBadUtf8 new
    text_bad none = inr (record {
      front = counted.gives.front ++ u;
      taken = both_taken counted.gives.taken t;
      why = inr (counted.gives.front, u, spelled_u, refl, inl (refl, none));
    })

    -- If they are UTF-8 and there is no memory for a copy, that is a reason to fail with
    -- `OutOfMemory`.
    pub text_full : {G : Type 0} → IsUtf8 u → G →
        RefusesFrom WantsText (BadText G) left able old OutOfMemory new
    text_full utf8 grown = inr (record {
      front = counted.gives.front ++ u;
      taken = both_taken counted.gives.taken t;
      why = inr (
        counted.gives.front,
        u,
        spelled_u,
        refl,
        inr (refl, utf8, grown),
      );
    })

    -- If they are UTF-8, the call may return them.
    pub text_read : {V : Type 0} {G : Error → Type 0} (see : V → List ℕ) (v : V) → see v ≡ u → IsUtf8 u →
        may_leave mid new → ReadsFrom Spells IsText (λ t v. t ≡ Text (see v)) G left able may_leave
        old (Ok v) new
    text_read see v e utf8 l =
        let low : length u < 2 ^ 64 =
        subst (λ (m : ℕ). m < 2 ^ 64) (sym long) (number_below laws counted) in
        found text_delimited (Text u) (counted.gives.front ++ u) v (u, refl, utf8, low)
        (counted.gives.front, u, spelled_u, refl, refl) (ap Text (sym e))
        (both_taken counted.gives.taken t) (laws.joins old mid new counted.leaves l)
