-- The clauses of `to_slice` and `to_slice_cobs` on their buffer and their result. They follow from the clauses of the attempt to write and
-- of `lend_front`.
use Rattle.std.proofs.Common.{◌≡◌, ◌≤◌, ◌<◌, ◌⊎◌, ℕ, List, [], ◌∷◌, length, take, drop, ◌++◌, refl, sym, ap, subst, ◌∙◌, Ok, Err, IfOk}
use Rattle.std.proofs.Math.Seq.{drop-append_seam, take-append_seam}
use Rattle.std.proofs.Flags.{never_true}
use Rattle.std.specs.Prelude.{◌↔◌, IfErr, ⊤}
use mathlib.Core.Bool.{Bool, true, false, not}
use lib.Dec.{T}
use Rattle.postcard_wire.specs.declared.error.Error.{Error}
use Rattle.std.specs.Result.{IsOk, OnOk, OnErr}
use Rattle.std.specs.declared.result.Result.{Result}
use Rattle.std.specs.Borrow.{MutBor, GName, RattleType, follows_if, follows_so}
use mathlib.Core.Option.{Option}
use seplogic.Ra.Ura.{Ura}
use base.Logic.{ent}
use denote.Follow.{such_by}
use types.Logic.{Logic, sem}
use types.Kit.{‵, ◌$◌, ◌∵◌, !, qed, fpack, done}
use Rattle.postcard_wire.specs.Spelling.{canonical, Spells}
use Rattle.postcard_wire.proofs.Shortest.{least}
use Rattle.postcard_shape.specs.Shape.{Shape, IsWilling}
use Rattle.postcard_shape.proofs.Again.{is_spelled}
use Rattle.postcard_ser.specs.Writing.{IsErrorOf}
use Rattle.postcard.specs.declared.ser.Attempt.{Attempt}
use Rattle.postcard_cobs.specs.Groups.{made}
use Rattle.postcard.specs.Frames.{DecodesTo}
use Rattle.postcard.specs.Lemmas.{frame_decodes}
use Rattle.postcard.specs.Attempt.{IsAttempt, LendsAttempt}

-- A test that holds is true, and one whose negation holds is false.
pub is_true : (b : Bool) → T b → b ≡ true
is_true true t = refl
is_true false t = absurd t

pub is_false : (b : Bool) → T (not b) → b ≡ false
is_false true t = absurd t
is_false false t = refl

-- If bs was written over the first bytes of xs, the first `length bs` bytes are bs.
in_front : (n : ℕ) (bs xs all : List ℕ) → n ≡ length bs → all ≡ bs ++ drop (length bs) xs → take n all ≡ bs
in_front n bs xs all long is = (λ i. take (long i) (is i)) ∙ take-append_seam bs (drop (length bs) xs)

-- After a failure nothing is claimed of the buffer.
pub none_left : (r : Result (MutBor (List ℕ)) Error) → OnErr r ⊤
none_left (Ok x) = tt
none_left (Err e) = tt

module _ {V : Type 0} (s : Shape V) (v : V) (xs : List ℕ) (left : List ℕ → Type 0) (old : List ℕ) (d : Attempt) (r : Result (MutBor (List ℕ)) Error) (done : IsAttempt s v xs left old d) (cut : LendsAttempt d r) where
  -- What the caller writes through the slice returned is then at the start of the buffer, before the old bytes.
  pub follows_front : (front : List ℕ) → IsOk r → front ++ drop d.count d.all.now ≡ front ++ drop (length xs) old
  follows_front front ok =
      let w = done.written (cut.sorts.0 ok) in
      let e : drop d.count d.all.now ≡ drop (length xs) old = (λ i. drop (w.0 i) (w.1 i)) ∙ drop-append_seam xs (drop (length xs) old) in
      ap (λ (l : List ℕ). front ++ l) e

  -- After a failure, the buffer has a prefix of the bytes and then the old bytes.
  pub follows_old : OnErr r (IsWilling s v → left d.all.now)
  follows_old = by_answer r d.failed cut.sorts done.refused
    where
      by_answer : (r : Result (MutBor (List ℕ)) Error) (b : Bool) → IsOk r ↔ (b ≡ false) → (b ≡ true → IsWilling s v → left d.all.now) → OnErr r (IsWilling s v → left d.all.now)
      by_answer (Ok x) b sorts k = tt
      by_answer (Err _) true sorts k = k refl
      by_answer (Err _) false sorts k = absurd (never_true (sorts.1 refl))

  -- The slice returned has the bytes to be written.
  pub gives : IfOk r (λ x. x.now ≡ xs)
  gives = by_answer r d.failed cut.sorts cut.front (λ z. in_front d.count xs old d.all.now (done.written z).0 (done.written z).1)
    where
      by_answer : (r : Result (MutBor (List ℕ)) Error) (b : Bool) → IsOk r ↔ (b ≡ false) → IfOk r (λ x. x.now ≡ take d.count d.all.now) → (b ≡ false → take d.count d.all.now ≡ xs) → IfOk r (λ x. x.now ≡ xs)
      by_answer (Ok x) b sorts w k = w ∙ k (sorts.0 refl)
      by_answer (Err _) b sorts w k = tt

  -- If the bytes are the tree's canonical encoding, no accepted encoding of the tree is shorter than the slice returned.
  pub shortest : xs ≡ canonical (s.tree v) → IfOk r (λ x. (p : List ℕ) → Spells (s.tree v) p → (p ≡ x.now) ⊎ (length x.now < length p))
  shortest is = by_answer r gives
    where
      by_answer : (r : Result (MutBor (List ℕ)) Error) → IfOk r (λ x. x.now ≡ xs) → IfOk r (λ x. (p : List ℕ) → Spells (s.tree v) p → (p ≡ x.now) ⊎ (length x.now < length p))
      by_answer (Ok x) h = λ p z. subst (λ (l : List ℕ). (p ≡ l) ⊎ (length l < length p)) (sym (h ∙ is)) (least (s.tree v) p z)
      by_answer (Err _) h = tt

  -- The call succeeds if and only if the bytes fit the buffer.
  pub fits_iff : IsWilling s v → IsOk r ↔ (length xs ≤ length old)
  fits_iff n = let e = done.fits_iff n in ((λ ok. e.0 (cut.sorts.0 ok)), (λ fits. cut.sorts.1 (e.1 fits)))

  -- If the attempt's error has a property, the error of the result has it.
  error_has : (P : Error → Type 0) → (d.failed ≡ true → P d.error) → IfErr r P
  error_has P = by_answer r d.failed cut.sorts cut.error
    where
      by_answer : (r : Result (MutBor (List ℕ)) Error) (b : Bool) → IsOk r ↔ (b ≡ false) → IfErr r (λ e. e ≡ d.error) → (b ≡ true → P d.error) → IfErr r P
      by_answer (Ok x) b sorts w k = tt
      by_answer (Err e) true sorts w k = subst P (sym w) (k refl)
      by_answer (Err e) false sorts w k = absurd (never_true (sorts.1 refl))

  -- If the bytes fit the buffer, the error is one by which the value refuses itself.
  pub own_error : length xs ≤ length old → IfErr r (s.refusal v)
  own_error room = error_has (s.refusal v) (done.own_error room)

  -- Each error is one of a refusal by the flavor, or one by which the value refuses itself.
  pub named_error : IfErr r (IsErrorOf s v)
  named_error = error_has (IsErrorOf s v) done.named_error

  -- A value that was written fits.
  pub fits : OnOk r (s.fits v)
  fits = by_answer r d.failed cut.sorts done.fitting
    where
      by_answer : (r : Result (MutBor (List ℕ)) Error) (b : Bool) → IsOk r ↔ (b ≡ false) → (b ≡ false → s.fits v) → OnOk r (s.fits v)
      by_answer (Ok x) b sorts k = k (sorts.0 refl)
      by_answer (Err _) b sorts k = tt

  -- If the bytes are the tree's canonical encoding, the slice returned encodes the tree.
  pub spelled : xs ≡ canonical (s.tree v) → IfOk r (λ x. Spells (s.tree v) x.now)
  spelled is = by_answer r gives fits
    where
      by_answer : (r : Result (MutBor (List ℕ)) Error) → IfOk r (λ x. x.now ≡ xs) → OnOk r (s.fits v) → IfOk r (λ x. Spells (s.tree v) x.now)
      by_answer (Ok x) h f = subst (λ (l : List ℕ). Spells (s.tree v) l) (sym (h ∙ is)) (is_spelled s v f)
      by_answer (Err _) h f = tt

  -- If the bytes are the frame of the data, the slice returned decodes to the data.
  pub decodes : (content : List ℕ) → xs ≡ made content → IfOk r (λ x. DecodesTo x.now content)
  decodes content is = by_answer r gives
    where
      by_answer : (r : Result (MutBor (List ℕ)) Error) → IfOk r (λ x. x.now ≡ xs) → IfOk r (λ x. DecodesTo x.now content)
      by_answer (Ok x) h = frame_decodes x.now content (h ∙ is)
      by_answer (Err _) h = tt

-- If the whole buffer ends as F of the prefix, it satisfies any relation that F satisfies.
module _ {M : Type 1} {𝓤 : Ura M} (𝓛 : Logic 𝓤) (R U : RattleType) (γ : GName) (m : Option GName) (F : U.Denot → R.Denot) (v : R.Denot) (P : U.Denot → R.Denot → Type 0) (P₀ : R.Denot → Type 0) where
  pub follows_such : ((w : U.Denot) → P w (F w)) → P₀ v → ent 𝓤 (sem 𝓛 (follows_if R U γ m F v)) (sem 𝓛 (follows_so R U γ m P P₀))
  unfolding such_by
  follows_such p p₀ = qed 𝓛 (‵ (follows_if R U γ m F v) ∷ []) ∵
      fpack ! ((s : (U.Denot → R.Denot) × R.Denot) × ((w : U.Denot) → P w (s.0 w)) × P₀ s.1) (λ s. follows_if R U γ m s.0.0 s.0.1) ((F, v), p, p₀) $ done !
