-- A node that was read from what a reader had not read yet.
use Rattle.std.proofs.Common.{◌≡◌, ◌≢◌, ◌∙◌, ◌≤◌, ◌-◌, ℕ, List, ◌++◌, length, take, drop}
use Rattle.std.proofs.Common.{sym, ap, ap₂, subst, refl, ◌⊎◌, inl, inr, arith, length-append, append_assoc}
use Rattle.std.proofs.Common.{Result, Ok, Err, IfErr, Bor, zero, suc}
use Rattle.std.proofs.lemmas.List.{take-append-drop, drop_at, append_cancel_left}
use Rattle.std.proofs.Common.{ℤ, pos, negsuc}
use Rattle.std.proofs.lemmas.Int.{ints}
use Rattle.std.proofs.Math.Nat.{lt_of_not-le}
use mir.Syntax.{w128}
use mir.Val.{SFits}
use Rattle.postcard_wire.specs.Tree.{Tree, Text, Int}
use Rattle.postcard_wire.specs.Reading.{IsText, IsInt}
use Rattle.postcard_wire.specs.Number.{InRange}
use Rattle.postcard_wire.specs.Spelling.{Spells}
use Rattle.postcard_wire.specs.declared.error.Error.{Error}
use Rattle.postcard_de_flavors.specs.Source.{known, IsEndOf}
use Rattle.postcard_shape.specs.Shape.{never}
use Rattle.postcard_de.specs.Reads.{ReadsFrom, IsReadError}
use Rattle.postcard_de.specs.Refuses.{RefusesFrom}
use Rattle.postcard_wire.proofs.Statuses.{is_failure}
use Rattle.postcard_c.specs.declared.reader.Reader.{Reader}
use Rattle.postcard_c.specs.Reading.{Gets, Settles, IsRefused, AreBytesOf, rest_of}

-- If xs come before `left`, the bytes from the place length bytes - length left on are `left`.
last_part : (xs left bytes : List ℕ) → bytes ≡ xs ++ left
    → drop (length bytes - length left) bytes ≡ left
last_part xs left bytes e =
    subst (λ (b : List ℕ). drop (length b - length left) b ≡ left) (sym e)
    (drop_at xs left (length (xs ++ left) - length left) (omega (arith, length-append xs left)))

-- What is left after a front of the bytes from a place on.
pub after_front : (at : ℕ) (bytes front left : List ℕ) → drop at bytes ≡ front ++ left
    → drop (length bytes - length left) bytes ≡ left
after_front at bytes front left e =
    last_part (take at bytes ++ front) left bytes
    (sym (take-append-drop at bytes) ∙ ap (λ (l : List ℕ). take at bytes ++ l) e
    ∙ sym (append_assoc (take at bytes) front left))

-- A number is 0 or not.
zero_or_not : (n : ℕ) → (n ≡ 0) ⊎ (n ≢ 0)
zero_or_not zero = inl refl
zero_or_not (suc n) = inr (λ e. omega (arith, e))

-- What a reader that has failed before leaves: the reader, and what the caller's pointer points to.
abbrev Kept : {V : Type 0} → Reader → Reader → V → V → Type 0
Kept old new before now = old.status ≢ 0 → (new ≡ old) × (now ≡ before)

-- A reader that succeeds has not failed before.
going : {V : Type 0} (old new : Reader) (before now : V) (result : ℕ) → result ≡ new.status
    → Kept old new before now → result ≡ 0 → old.status ≡ 0
going old new before now result returns kept z = go (zero_or_not old.status)
  where
    go : (old.status ≡ 0) ⊎ (old.status ≢ 0) → old.status ≡ 0
    go (inl e) = e
    go (inr n) = sym (ap (λ (r : Reader). r.status) (kept n).0) ∙ sym returns ∙ z

-- A call that left the place and the value as they are if the reader had not failed before, left them
-- so in any case.
still : {V : Type 0} (old new : Reader) (before now : V) → Kept old new before now
    → (old.status ≡ 0 → (new.at ≡ old.at) × (now ≡ before)) → (new.at ≡ old.at) × (now ≡ before)
still old new before now kept same = go (zero_or_not old.status)
  where
    go : (old.status ≡ 0) ⊎ (old.status ≢ 0) → (new.at ≡ old.at) × (now ≡ before)
    go (inl e) = same e
    go (inr n) = (ap (λ (r : Reader). r.at) (kept n).0, (kept n).1)

-- A call over a slice says why it fails in the words of the slice.
why : (wants : List ℕ → ℕ → Type 0) (bad : List ℕ → Error → Type 0) (bytes left : List ℕ) (e : Error)
    → RefusesFrom wants bad known (λ s n. n ≤ length s) bytes e left
    → IsRefused wants bad bytes e
why wants bad bytes left e (inl f) = inl (
  f.0,
  record {
    front = f.1.front;
    rest = f.1.after_front;
    joins = f.1.taken.drops;
    count = f.1.count;
    wanted = f.1.wanted;
    lacks = lt_of_not-le f.1.lacks;
  },
)
why wants bad bytes left e (inr f) =
    inr (record { front = f.front; rest = left; joins = f.taken.drops; why = f.why })

module _ {V : Type 0} (reads : Tree → Type 0) (value : Tree → V → Type 0)
    (wants : List ℕ → ℕ → Type 0) (bad : List ℕ → Error → Type 0) where
  -- A node that was read or refused from the bytes not read yet, and settled, is what the call
  -- promises.
  settled_rest : (old new : Reader) (read : Result V Error) (left : List ℕ) (before now : V)
      (result : ℕ)
      → ReadsFrom Spells reads value never known (λ s n. n ≤ length s)
      (λ s t. IsEndOf t s) (rest_of old) read left
      → IfErr read (λ e. RefusesFrom wants bad known (λ s n. n ≤ length s)
      (rest_of old) e left)
      → Settles old new read left before now result
      → Gets reads value wants bad old new before now result
  settled_rest old new (Ok v) left before now result r f s =
      let left_is : old.status ≡ 0 → rest_of new ≡ left =
      λ o. ap₂ (λ n (l : List ℕ). drop n l) (s.is_read o).2 (ap (λ (b : Bor (List ℕ)). b.now) s.same_bytes)
      ∙ after_front old.at old.bytes.now r.gives.front left r.gives.taken.drops in
      record {
        same_bytes = s.same_bytes;
        returns_status = s.returns_status;
        failed_before = s.failed_before;
        is_read = λ z. let o = going old new before now result s.returns_status s.failed_before z in record {
          tree = r.gives.thing;
          front = r.gives.front;
          is_read = r.gives.is_read;
          is_spelled = r.gives.is_spelled;
          has = subst (λ w. value r.gives.thing w) (sym (s.is_read o).1) r.gives.has;
          joins = r.gives.taken.drops ∙ ap (λ (l : List ℕ). r.gives.front ++ l) (sym (left_is o));
        };
        accepts = λ o t front rest read_t spelled joins.
            let a = r.accepts t front read_t spelled (record {
              begins = (rest, joins);
              enough = omega (arith, ap length joins, length-append front rest);
            }) in (
              (s.is_read o).0,
              subst (λ w. value t w) (sym (s.is_read o).1) a.0,
              left_is o ∙ append_cancel_left front left rest (sym a.1.drops ∙ joins),
            );
        unread = λ n. still old new before now s.failed_before (λ o. absurd (n (s.is_read o).0));
        refused = λ o n. absurd (n (s.is_read o).0);
      }
  settled_rest old new (Err e) left before now result r f s = record {
    same_bytes = s.same_bytes;
    returns_status = s.returns_status;
    failed_before = s.failed_before;
    is_read = λ z.
        let o = going old new before now result s.returns_status s.failed_before z in
        absurd (omega (arith, (s.refused o).0, is_failure e, z));
    accepts = λ o t front rest read_t spelled joins.
        let a = r.accepts t front read_t spelled (record {
          begins = (rest, joins);
          enough = omega (arith, ap length joins, length-append front rest);
        }) in
        absurd (subst (IsReadError never) a r.named_error);
    unread = λ n. still old new before now s.failed_before (λ o. ((s.refused o).1, (s.refused o).2));
    refused = λ o n. (e, (s.refused o).0, why wants bad (rest_of old) left e f);
  }

  pub settled : {old new : Reader} {bytes : List ℕ} {read : Result V Error} {left : List ℕ}
      {before now : V} {result : ℕ} → Settles old new read left before now result
      → bytes ≡ rest_of old
      → ReadsFrom Spells reads value never known (λ s n. n ≤ length s)
      (λ s t. IsEndOf t s) bytes read left
      → IfErr read (λ e. RefusesFrom wants bad known (λ s n. n ≤ length s)
      bytes e left)
      → Gets reads value wants bad old new before now result
  settled {old} {new} {bytes} {read} {left} {before} {now} {result} s rest r f =
      settled_rest old new read left before now result
      (subst (λ b. ReadsFrom Spells reads value never known (λ s n. n ≤ length s)
      (λ s t. IsEndOf t s) b read left) rest r)
      (subst (λ b. IfErr read (λ e. RefusesFrom wants bad known
      (λ s n. n ≤ length s) b e left)) rest f)
      s

-- A value that was read is read as any other that determines it.
pub gets_as : {V W : Type 0} (reads : Tree → Type 0) (value : Tree → V → Type 0)
    (wants : List ℕ → ℕ → Type 0) (bad : List ℕ → Error → Type 0) (f : V → W) (g : W → V)
    (old new : Reader) (before now : V) (w : W) (result : ℕ)
    → ((t : Tree) → reads t → value t now → g (f now) ≡ now) → f before ≡ w
    → Gets reads value wants bad old new before now result
    → Gets reads (λ t v. value t (g v)) wants bad old new w (f now) result
gets_as reads value wants bad f g old new before now w result back same s = record {
  same_bytes = s.same_bytes;
  returns_status = s.returns_status;
  failed_before = λ n. ((s.failed_before n).0, ap f (s.failed_before n).1 ∙ same);
  is_read = λ z. let r = s.is_read z in record {
    tree = r.tree;
    front = r.front;
    is_read = r.is_read;
    is_spelled = r.is_spelled;
    has = subst (λ v. value r.tree v) (sym (back r.tree r.is_read r.has)) r.has;
    joins = r.joins;
  };
  accepts = λ o t front rest read_t spelled joins.
      let a = s.accepts o t front rest read_t spelled joins in
      (a.0, subst (λ v. value t v) (sym (back t read_t a.1)) a.1, a.2);
  unread = λ n. ((s.unread n).0, ap f (s.unread n).1 ∙ same);
  refused = s.refused;
}

-- Over a slice, what reading a text does is done by reading its bytes.
abbrev ReadsText : List ℕ → Result (Bor (List ℕ)) Error → List ℕ → Type 0
ReadsText bytes read left = ReadsFrom Spells IsText (λ t (v : Bor (List ℕ)). t ≡ Text v.now) never
    known (λ s n. n ≤ length s) (λ s t. IsEndOf t s) bytes read left

pub text_is_read : (bytes left : List ℕ) (text read : Result (Bor (List ℕ)) Error)
    → AreBytesOf text read → ReadsText bytes text left → ReadsText bytes read left
text_is_read bytes left (Ok t) (Ok b) same r = record {
  gives = record {
    thing = r.gives.thing;
    front = r.gives.front;
    is_read = r.gives.is_read;
    is_spelled = r.gives.is_spelled;
    has = r.gives.has ∙ ap (λ u. Text u) (sym same.0);
    taken = r.gives.taken;
  };
  accepts = λ x p reads spelled can.
      let a = r.accepts x p reads spelled can in (a.0 ∙ ap (λ u. Text u) (sym same.0), a.1);
  leaves = r.leaves;
  named_error = tt;
}
text_is_read bytes left (Ok t) (Err e) same r = absurd same.1
text_is_read bytes left (Err e) read same r = rw same r

-- The same of why it fails.
pub text_is_refused : (text read : Result (Bor (List ℕ)) Error) (refuses : Error → Type 0)
    → AreBytesOf text read → IfErr text refuses → IfErr read refuses
text_is_refused (Ok t) (Ok b) refuses same f = tt
text_is_refused (Ok t) (Err e) refuses same f = absurd same.1
text_is_refused (Err e) read refuses same f = rw same f

-- The number of a tree of a signed number.
abbrev signed_of : Tree → ℤ
signed_of (Int w z) = z
signed_of t = pos 0

-- A signed number that is read fits its width.
pub fits_128 : (z : ℤ) → InRange 128 z → SFits w128 z
fits_128 (pos n) h = record { sfits = omega (arith, ints, h.0, h.1) }
fits_128 (negsuc n) h = record { sfits = omega (arith, ints, h.0, h.1) }

pub signed_fits : (t : Tree) (z : ℤ) → IsInt 128 t → t ≡ Int 128 z → SFits w128 z
signed_fits t z r e =
    subst (λ x. SFits w128 x) (ap signed_of (sym r.1) ∙ ap signed_of e) (fits_128 r.0 r.2)
