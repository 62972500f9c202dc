-- Why the flavor that fills a slice is lawful. The lemmas are here since a ghost member cites them.
use Rattle.std.proofs.Common.{◌≡◌, ℕ, ◌+◌, ◌-◌, ◌≤◌, List, ◌++◌, length, take, drop, refl, sym, ap, ◌∙◌, append_assoc, append-nil, length-append, arith}
use Rattle.std.proofs.lemmas.List.{drop-drop}
use Rattle.std.proofs.Math.Nat.{ℕ_set}
use Rattle.std.proofs.Props.{props}
use Rattle.std.specs.Coded.{le_prop}
use Rattle.postcard_ser_flavors.specs.Flavor.{IsFlavor}
use Rattle.postcard_ser_flavors.specs.Slice.{Written, Appended, HasRoom, Reaches}

-- Two lists appended one after the other are their join appended.
pub held_join : (h i j x y : List ℕ) → i ≡ h ++ x → j ≡ i ++ y → j ≡ h ++ (x ++ y)
held_join h i j x y p q = q ∙ ap (λ z. z ++ y) p ∙ append_assoc h x y

-- A front of a list that fits also fits.
pub fits_front : (n m : ℕ) (x y : List ℕ) → n + length (x ++ y) ≤ m → n + length x ≤ m
fits_front n m x y h = omega (arith, length-append x y)

-- Once the front is appended, the rest of a list that fits still fits.
pub fits_rest : (h i : List ℕ) (m : ℕ) (x y : List ℕ) → i ≡ h ++ x → length h + length (x ++ y) ≤ m → length i + length y ≤ m
fits_rest h i m x y e r = omega (arith, ap length e, length-append h x, length-append x y)

-- Lists that agree from place j on agree from each later place on.
pub agree_later : (j k : ℕ) (b c : List ℕ) → j ≤ k → drop j c ≡ drop j b → drop k c ≡ drop k b
agree_later j k b c h e =
    let q : j + (k - j) ≡ k = omega arith in
    let p = sym (drop-drop (k - j) j c) ∙ ap (λ z. drop (k - j) z) e ∙ drop-drop (k - j) j b in
    rw q at p

-- Two proofs that t is reached from s are equal.
pub reaches_prop : (s t : Written) → IsProp (Reaches s t)
reaches_prop s t = hlevel (le_prop, ℕ_set, props)

-- Without a push the state stays the same.
pub reaches_self : (s : Written) → Reaches s s
reaches_self s = record { same_loan = refl; same_length = refl; grows = omega arith; bytes_after_unchanged = refl }

-- What is reached from a reached state is reached.
pub reaches_join : (s t u : Written) → Reaches s t → Reaches t u → Reaches s u
reaches_join s t u p q = record {
  same_loan = q.same_loan ∙ p.same_loan;
  same_length = q.same_length ∙ p.same_length;
  grows = omega arith;
  bytes_after_unchanged = q.bytes_after_unchanged ∙ agree_later t.count u.count s.buffer t.buffer q.grows p.bytes_after_unchanged;
}

-- The flavor that fills a slice is lawful.
pub slice_lawful : IsFlavor Appended HasRoom Reaches
slice_lawful = record {
  appended_none = λ s. sym (append-nil (take s.count s.buffer));
  appended_join = λ s t u x y p q. held_join (take s.count s.buffer) (take t.count t.buffer) (take u.count u.buffer) x y p q;
  room_front = λ s x y r. fits_front (length (take s.count s.buffer)) (length s.buffer) x y r;
  room_rest = λ s t x y r p v. rw v.same_length (fits_rest (take s.count s.buffer) (take t.count t.buffer) (length s.buffer) x y p r);
  reaches_self = reaches_self;
  reaches_join = reaches_join;
  reaches_prop = reaches_prop;
}
