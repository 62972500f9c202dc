-- Reading one node: what holds if a front was read, and that there is no such front if the call
-- fails.
use Rattle.std.proofs.Common.{◌≡◌, ℕ, ◌+◌, ◌≤◌, inl, inr, List, ◌++◌, length, Ok, Err}
use Rattle.std.proofs.Common.{Result, IsErrAnd, refl, sym, ap, subst}
use Rattle.postcard_wire.specs.declared.error.Error.{Error}
use Rattle.postcard_wire.specs.declared.error.Error.TheVariants.{OutOfMemory}
use Rattle.postcard_wire.specs.declared.error.Error.TheVariants.{DeserializeUnexpectedEnd}
use Rattle.postcard_de_flavors.specs.Source.{Left, CanTake, Takes, Laws}
use Rattle.postcard_de_nodes.specs.Reads.{IsReadError, ReadsFrom}
use Rattle.postcard_de_nodes.specs.Refuses.{RefusesFrom}
use Rattle.postcard_de_nodes.specs.TakeLemmas.{faces}

-- The error e as a result.
abbrev pub refusal : (A : Type 0) → Error → Result A Error
refusal A e = Err e

-- A result that is the error e, as `?` passes it on, is `refusal` of it.
pub is_refusal : {W : Type 0} (r : Result W Error) (e : Error) → IsErrAnd r (λ x. x ≡ e) →
    r ≡ refusal W e
is_refusal (Ok x) e h = absurd h
is_refusal (Err d) e h = ap Err h

-- If two fronts of one list spell things that are read, the fronts are equal and so are the things.
abbrev pub Delimits : {X : Type 0} → (X → List ℕ → Type 0) → (X → Type 0) → Type 0
Delimits {X} spelled reads = (t s : X) (p q x y : List ℕ) → reads t → reads s → spelled t p →
    spelled s q → p ++ x ≡ q ++ y → (p ≡ q) × (t ≡ s)

-- The reasons for a failure exclude a front that is read. More bytes are wanted only within such a
-- front. Bad bytes begin no such front, unless an allocation failed. Their error is one that a
-- reading call may return.
pub record Excludes {X : Type 0} (other : Error → Type 0) (wants : List ℕ → ℕ → Type 0)
    (bad : List ℕ → Error → Type 0) (spelled : X → List ℕ → Type 0) (reads : X → Type 0) : Type 0
  where
    pub within : (x : X) (p q : List ℕ) (n : ℕ) (y z : List ℕ) → wants p n → reads x → spelled x q →
        p ++ y ≡ q ++ z → length p + n ≤ length q
    pub none : (x : X) (p q : List ℕ) (e : Error) (y z : List ℕ) → bad p e → reads x → spelled x q →
        p ++ y ≡ q ++ z → e ≡ OutOfMemory
    pub named : (p : List ℕ) (e : Error) → bad p e → IsReadError other e

module _ {S : Type 0} {left : S → Left} {able : S → ℕ → Type 0} where
  -- A reason for a failure may be weakened.
  pub widened : {wants wants' : List ℕ → ℕ → Type 0} {bad bad' : List ℕ → Error → Type 0}
      {old new : S} {e : Error} → ((p : List ℕ) (n : ℕ) → wants p n → wants' p n) →
      ((p : List ℕ) → bad p e → bad' p e) → RefusesFrom wants bad left able old e new →
      RefusesFrom wants' bad' left able old e new
  widened wide bad (inl (is, ends)) = inl (
    is,
    record {
      front = ends.front;
      after_front = ends.after_front;
      taken = ends.taken;
      count = ends.count;
      wanted = wide ends.front ends.count ends.wanted;
      lacks = ends.lacks;
    },
  )
  widened wide bad (inr b) =
      inr (record { front = b.front; taken = b.taken; why = bad b.front b.why })

  -- If a front was taken after which n more bytes are wanted, and the source isn't able to give
  -- them, that is a reason to fail with `DeserializeUnexpectedEnd`.
  pub ends_after_front : {wants : List ℕ → ℕ → Type 0} {bad : List ℕ → Error → Type 0} {old mid new : S}
      {p : List ℕ} {n : ℕ} {e : Error} → Takes left able old p mid → wants p n → (able mid n → ⊥) →
      e ≡ DeserializeUnexpectedEnd → RefusesFrom wants bad left able old e new
  ends_after_front {mid = mid} {p = p} {n = n} t wanted lacks is =
      inl (
        is,
        record {
          front = p;
          after_front = mid;
          taken = t;
          count = n;
          wanted = wanted;
          lacks = lacks;
        },
      )

module _ {S : Type 0} {left : S → Left} {able : S → ℕ → Type 0}
    {may_leave : S → S → Type 0} where
  -- If a front was taken that spells a thing that is read, the call may return that thing's value.
  pub found : {X V : Type 0} {spelled : X → List ℕ → Type 0} {reads : X → Type 0}
      {value : X → V → Type 0} {other : Error → Type 0} {old new : S} →
      Delimits spelled reads → (x : X) (p : List ℕ) (v : V) → reads x → spelled x p → value x v →
      Takes left able old p new → may_leave old new →
      ReadsFrom spelled reads value other left able may_leave old (Ok v) new
  found {value = value} {old = old} {new = new} law x p v r s h t l = record {
    gives = record { thing = x; front = p; is_read = r; is_spelled = s; has = h; taken = t };
    accepts = λ y q a b c.
        let f = faces t c in
        let e = law x y p q f.0 f.1 r a s b f.2 in
        (subst (λ z. value z v) e.1 h, subst (λ z. Takes left able old z new) e.0 t);
    leaves = l;
    named_error = tt;
  }

  -- If there is a reason for a failure, no front can be taken and read, unless memory ran out.
  no_front : {X : Type 0} {spelled : X → List ℕ → Type 0} {reads : X → Type 0} {other : Error → Type 0}
      {wants : List ℕ → ℕ → Type 0} {bad : List ℕ → Error → Type 0} {old new : S} {e : Error} →
      Laws left able may_leave → Excludes other wants bad spelled reads →
      RefusesFrom wants bad left able old e new → (x : X) (q : List ℕ) → reads x → spelled x q →
      CanTake left able old q → e ≡ OutOfMemory
  no_front {old = old} laws excludes (inl (is_end, ends)) x q r s c =
      let f = faces ends.taken c in
      let h = excludes.within x ends.front q ends.count f.0 f.1 ends.wanted r s f.2 in
      absurd (ends.lacks (ends.taken.keeps ends.count
      (laws.fewer old (length ends.front + ends.count) (length q) h c.enough)))
  no_front {e = e} laws excludes (inr bad) x q r s c =
      let f = faces bad.taken c in
      excludes.none x bad.front q e f.0 f.1 bad.why r s f.2

  -- A call with a reason for a failure may return its error.
  pub refused : {X V : Type 0} {spelled : X → List ℕ → Type 0} {reads : X → Type 0}
      {value : X → V → Type 0} {other : Error → Type 0} {wants : List ℕ → ℕ → Type 0}
      {bad : List ℕ → Error → Type 0} {old new : S} {e : Error} →
      Laws left able may_leave → Excludes other wants bad spelled reads →
      RefusesFrom wants bad left able old e new → may_leave old new →
      ReadsFrom spelled reads value other left able may_leave old (refusal V e) new
  refused {other = other} {wants = wants} {bad = bad} {old = old} {new = new} {e = e} laws excludes
      why l = record {
        gives = tt;
        accepts = no_front laws excludes why;
        leaves = l;
        named_error = named why;
      }
    where
      named : RefusesFrom wants bad left able old e new → IsReadError other e
      named (inl (is, ends)) = subst (IsReadError other) (sym is) tt
      named (inr b) = excludes.named b.front e b.why

  -- A call may return `OutOfMemory` if the type grows.
  pub out_of_memory : {X V : Type 0} {spelled : X → List ℕ → Type 0} {reads : X → Type 0}
      {value : X → V → Type 0} {other : Error → Type 0} {old new : S} → may_leave old new → other OutOfMemory →
      ReadsFrom spelled reads value other left able may_leave old (refusal V OutOfMemory) new
  out_of_memory l h = record { gives = tt; accepts = λ x p a b c. refl; leaves = l; named_error = h }
