-- Reading a character: a length of at most 4, and that many bytes, which begin with the character.
use Rattle.std.proofs.Common.{◌≡◌, ℕ, ◌+◌, ◌<◌, ◌≤◌, ◌^◌, inl, inr, List, ◌++◌, length, Ok}
use Rattle.std.proofs.Common.{refl, sym, ◌∙◌, ap, subst, arith, append_assoc, length-append}
use Rattle.std.specs.Char.{IsScalar}
use Rattle.postcard_wire.specs.declared.error.Error.{Error}
use Rattle.postcard_wire.specs.declared.error.Error.TheVariants.{OutOfMemory}
use Rattle.postcard_wire.specs.declared.error.Error.TheVariants.{DeserializeUnexpectedEnd}
use Rattle.postcard_wire.specs.declared.error.Error.TheVariants.{DeserializeBadChar}
use Rattle.postcard_wire.specs.Number.{SpellsNum}
use Rattle.postcard_wire.specs.Tree.{Tree, Char}
use Rattle.postcard_wire.specs.Spelling.{Spells, BeginsWithChar}
use Rattle.postcard_wire.specs.Reading.{IsChar}
use Rattle.postcard_wire.proofs.Delimited.{num_front, char_delimited, same_front}
use Rattle.postcard_wire.proofs.Refused.{longer, none_spelled}
use Rattle.std.proofs.lemmas.List.{append_cancel_left}
use Rattle.postcard_shape.specs.Shape.{never}
use Rattle.postcard_de_flavors.specs.Source.{Left, Takes, Laws}
use Rattle.postcard_de_nodes.specs.Reads.{IsReadError, ReadsFrom}
use Rattle.postcard_de_nodes.specs.Refuses.{RefusesFrom, WantsDigit, BadNumber}
use Rattle.postcard_de_nodes.specs.Unfit.{WantsChar, BadChar}
use Rattle.postcard_shape.specs.Leaves.{Same}
use Rattle.postcard_de_nodes.specs.TakeLemmas.{both_taken}
use Rattle.postcard_de_nodes.specs.ReadLemmas.{Excludes, found, widened}
use Rattle.postcard_de_nodes.specs.ReadLemmas.{ends_after_front}
use Rattle.postcard_de_nodes.specs.NumberLemmas.{Below, number_below, number_spelled}
use Rattle.postcard_de_nodes.proofs.TextLemmas.{facing_length}

-- If more bytes are wanted, they are within the character's spelling.
char_within : (x : Tree) (p q : List ℕ) (n : ℕ) (y z : List ℕ) → WantsChar p n → IsChar x →
    Spells x q → p ++ y ≡ q ++ z → length p + n ≤ length q
char_within x p q n y z (inl wanted) r s e =
    let t : Spells (Char r.0) q = rw r.1 at s in
    let j = t.2 in
    let h = longer p j.0 y (j.1 ++ z) wanted.0 j.2.digits (facing_length p q j.0 j.1 y z j.4 e) in
    omega (arith, h, wanted.2, ap length j.4, length-append j.0 j.1)
char_within x p q n y z (inr wanted) r s e =
    let t : Spells (Char r.0) q = rw r.1 at s in
    let j = t.2 in
    let h = num_front 64 n (length t.0) p j.0 y (j.1 ++ z) wanted.0 j.2
    (facing_length p q j.0 j.1 y z j.4 e) in
    omega (arith, h.1, ap length h.0, ap length j.3, ap length j.4, length-append j.0 j.1)

-- A bad front begins no spelling of a character.
char_none : (x : Tree) (p q : List ℕ) (f : Error) (y z : List ℕ) → BadChar p f → IsChar x →
    Spells x q → p ++ y ≡ q ++ z → f ≡ OutOfMemory
char_none x p q f y z (inl bad) r s e =
    let t : Spells (Char r.0) q = rw r.1 at s in
    let j = t.2 in
    let low : length t.0 < 2 ^ 64 = omega (arith, t.1.few) in
    absurd (none_spelled 64 (length t.0) p j.0 y (j.1 ++ z) bad.1 j.2 low
    (facing_length p q j.0 j.1 y z j.4 e))
char_none x p q f y z (inr (is, inl (n, spelled, low, high))) r s e =
    let t : Spells (Char r.0) q = rw r.1 at s in
    let j = t.2 in
    let h = num_front 64 n (length t.0) p j.0 y (j.1 ++ z) spelled j.2
    (facing_length p q j.0 j.1 y z j.4 e) in
    absurd (omega (arith, h.1, high, t.1.few))
char_none x p q f y z (inr (is, inr (a, u, spelled, i, few, none))) r s e =
    let t : Spells (Char r.0) q = rw r.1 at s in
    let j = t.2 in
    let g : a ++ (u ++ y) ≡ j.0 ++ (j.1 ++ z) = sym (append_assoc a u y)
    ∙ (ap (λ (l : List ℕ). l ++ y) (sym i) ∙ facing_length p q j.0 j.1 y z j.4 e) in
    let h = num_front 64 (length u) (length t.0) a j.0 (u ++ y) (j.1 ++ z) spelled j.2 g in
    let k : u ++ y ≡ j.1 ++ z = append_cancel_left a (u ++ y) (j.1 ++ z)
    (g ∙ ap (λ (l : List ℕ). l ++ (j.1 ++ z)) (sym h.0)) in
    let same = same_front u j.1 y z (h.1 ∙ ap length (sym j.3)) k in
    absurd (none r.0 (subst (BeginsWithChar r.0) (sym (same ∙ j.3)) t.1))

-- The error for a bad front is one that a reading call may return.
char_named : (p : List ℕ) (e : Error) → BadChar p e → IsReadError never e
char_named p e (inl bad) = subst (IsReadError never) (sym bad.0) tt
char_named p e (inr bad) = subst (IsReadError never) (sym bad.0) tt

-- The reasons to fail to read a character exclude a character at the front.
pub char_excludes : Excludes never WantsChar BadChar Spells IsChar
char_excludes = record { within = char_within; none = char_none; named = char_named }

module _ {S : Type 0} {left : S → Left} {able : S → ℕ → Type 0}
    {may_leave : S → S → Type 0} (laws : Laws left able may_leave) where
  -- If reading the length fails, reading the character fails with that error.
  pub char_length_refused : {old new : S} {e : Error} →
      RefusesFrom (WantsDigit 64) (BadNumber 64) left able old e new →
      RefusesFrom WantsChar BadChar left able old e new
  char_length_refused why = widened (λ p n w. inl w) (λ p b. inl b) why

module _ {S : Type 0} {left : S → Left} {able : S → ℕ → Type 0}
    {may_leave : S → S → Type 0} (laws : Laws left able may_leave) {n : ℕ} {old mid : S}
    (counted : ReadsFrom (SpellsNum 64) (Below 64) Same never left able may_leave old (Ok n) mid) where
  -- A length above 4 is a reason to fail with `DeserializeBadChar`.
  pub char_too_long : 4 < n → RefusesFrom WantsChar BadChar left able old DeserializeBadChar mid
  char_too_long high = inr (record {
    front = counted.gives.front;
    taken = counted.gives.taken;
    why = inr (refl, inl (n, number_spelled laws counted, number_below laws counted, high));
  })

  -- If the bytes after the length can't be taken, that is a reason to fail.
  pub char_ends : {new : S} {e : Error} → n ≤ 4 → (able mid n → ⊥) → e ≡ DeserializeUnexpectedEnd →
      RefusesFrom WantsChar BadChar left able old e new
  char_ends few lacks is =
      ends_after_front counted.gives.taken (inr (number_spelled laws counted, few)) lacks is

  module _ {u : List ℕ} {new : S} (few : n ≤ 4) (long : length u ≡ n)
      (t : Takes left able mid u new) where
    -- The front that was taken spells the number of the bytes u.
    char_spelled : SpellsNum 64 (length u) counted.gives.front
    char_spelled = subst (λ (m : ℕ). SpellsNum 64 m counted.gives.front) (sym long)
        (number_spelled laws counted)

    -- If they begin with no character, that is a reason to fail with `DeserializeBadChar`.
    pub char_bad : ((c : ℕ) → BeginsWithChar c u → ⊥) →
        RefusesFrom WantsChar BadChar left able old DeserializeBadChar new
    char_bad none = inr (record {
      front = counted.gives.front ++ u;
      taken = both_taken counted.gives.taken t;
      why = inr (
        refl,
        inr (
          counted.gives.front,
          u,
          char_spelled,
          refl,
          subst (λ (m : ℕ). m ≤ 4) (sym long) few,
          none,
        ),
      );
    })

    -- If they begin with c, the call may return c.
    pub char_read : {c : ℕ} → BeginsWithChar c u → IsScalar c → may_leave mid new →
        ReadsFrom Spells IsChar (λ t v. t ≡ Char v) never left able may_leave old (Ok c) new
    char_read {c} begins scalar l =
        found char_delimited (Char c) (counted.gives.front ++ u) c (c, refl, scalar)
        (u, begins, (counted.gives.front, u, char_spelled, refl, refl)) refl
        (both_taken counted.gives.taken t) (laws.joins old mid new counted.leaves l)
