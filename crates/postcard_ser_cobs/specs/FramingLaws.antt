-- Why the frame flavor is lawful. The lemmas are here since its ghost members cite them.
use Rattle.std.proofs.Common.{◌≡◌, ℕ, ◌+◌, ◌-◌, ◌≤◌, List, [], ◌∷◌, ◌++◌, length, Bool, true, false, IsTrue, IsFalse, cond, eqb, refl, ap, subst, append_assoc, append-nil, length-append, length-set, arith}
use Rattle.std.specs.Prelude.{slice_set}
use Rattle.std.specs.Coded.{le_prop}
use Rattle.std.proofs.Math.Bool.{Bool-set}
use Rattle.postcard_cobs.specs.Groups.{IsOpen, Standing, made, made_from, coded}
use Rattle.postcard_cobs.proofs.Encoding.{open_finishes}
use Rattle.postcard_ser_cobs.specs.Framing.{HoldsOpen, HasFrameRoom, LeavesFrame}

-- A made frame has at least the bytes of its open group, a code byte and a zero.
pub made_least : (g x : List ℕ) → length g + 2 ≤ length (made_from g x)
made_least g [] = omega (arith, length-append (coded g) (0 ∷ []))
made_least g (b ∷ x) =
    elim (eqb b 0) as (λ v. length g + 2 ≤ length (cond v (coded g ++ made_from [] x) (cond (eqb (length g) 253) (coded (g ++ b ∷ []) ++ made_from [] x) (made_from (g ++ b ∷ []) x)))) [
      | true ↦ omega (arith, length-append (coded g) (made_from [] x), made_least [] x)
      | false ↦ elim (eqb (length g) 253) as (λ v. length g + 2 ≤ length (cond v (coded (g ++ b ∷ []) ++ made_from [] x) (made_from (g ++ b ∷ []) x))) [
        | true ↦ omega (arith, length-append (coded (g ++ b ∷ [])) (made_from [] x), length-append g (b ∷ []), made_least [] x)
        | false ↦ omega (arith, length-append g (b ∷ []), made_least (g ++ b ∷ []) x)
      ]
    ]

-- A frame of more data is not shorter, after any open group.
pub made_grows_from : (g d x : List ℕ) → length (made_from g d) ≤ length (made_from g (d ++ x))
made_grows_from g [] x = omega (arith, length-append (coded g) (0 ∷ []), made_least g x)
made_grows_from g (b ∷ d) x =
    elim (eqb b 0) as (λ v. length (cond v (coded g ++ made_from [] d) (cond (eqb (length g) 253) (coded (g ++ b ∷ []) ++ made_from [] d) (made_from (g ++ b ∷ []) d)))
    ≤ length (cond v (coded g ++ made_from [] (d ++ x)) (cond (eqb (length g) 253) (coded (g ++ b ∷ []) ++ made_from [] (d ++ x)) (made_from (g ++ b ∷ []) (d ++ x))))) [
      | true ↦ omega (arith, length-append (coded g) (made_from [] d), length-append (coded g) (made_from [] (d ++ x)), made_grows_from [] d x)
      | false ↦ elim (eqb (length g) 253) as (λ v. length (cond v (coded (g ++ b ∷ []) ++ made_from [] d) (made_from (g ++ b ∷ []) d)) ≤ length (cond v (coded (g ++ b ∷ []) ++ made_from [] (d ++ x)) (made_from (g ++ b ∷ []) (d ++ x)))) [
        | true ↦ omega (arith, length-append (coded (g ++ b ∷ [])) (made_from [] d), length-append (coded (g ++ b ∷ [])) (made_from [] (d ++ x)), made_grows_from [] d x)
        | false ↦ made_grows_from (g ++ b ∷ []) d x
      ]
    ]

-- A frame of more data is not shorter.
pub made_grows : (d x : List ℕ) → length (made d) ≤ length (made (d ++ x))
made_grows d x = made_grows_from [] d x

-- A made frame is longer than the open one by its zero.
pub open_made : (L d : List ℕ) (at : Standing) → IsOpen L at d → length (made d) ≡ length L + 1
open_made L d at h = omega (arith, ap length (open_finishes L d at h), length-append (slice_set L at.code_at at.code) (0 ∷ []), length-set L at.code_at at.code)

-- Nothing is both true and false.
pub not_both : {b : Bool} → IsTrue b → IsFalse b → ⊥
not_both t f = cc

-- If a refusal stays and there is none now, there was none before.
pub still_going : (f f' : Bool) → (IsTrue f → IsTrue f') → IsFalse f' → IsFalse f
still_going false f' i g = refl
still_going true f' i g = absurd (not_both (i refl) g)

-- The number of bytes of a storage that holds an open frame after other bytes.
pub holds_made : {S : Type 0} {held : S → List ℕ} {s : S} {start : ℕ} {at : Standing} {f : Bool} {before d : List ℕ} → HoldsOpen held s start at f before d → length (held s) + 1 ≡ length before + length (made d)
holds_made {before = before} {d = d} h = omega (arith, ap length h.held_is, length-append before h.frame, open_made h.frame d _ h.stands)

module _ {S : Type 0} {held : S → List ℕ} where
  -- An open frame of some data is one of that data followed by nothing.
  pub holds_none : {s : S} {start : ℕ} {at : Standing} {f : Bool} {before d : List ℕ} → HoldsOpen held s start at f before d → HoldsOpen held s start at f before (d ++ [])
  holds_none h = rw append-nil h

  -- An open frame of data that was taken in two parts is one of that data.
  pub holds_join : {s : S} {start : ℕ} {at : Standing} {f : Bool} (before d x y : List ℕ) → HoldsOpen held s start at f before ((d ++ x) ++ y) → HoldsOpen held s start at f before (d ++ (x ++ y))
  holds_join {s} {start} {at} {f} before d x y h = subst (λ z. HoldsOpen held s start at f before z) (append_assoc d x y) h

  module _ {free : S → ℕ → Type 0} where
    -- If data has room, so has a front of it.
    pub room_of_front : ((s : S) (m n : ℕ) → free s (m + n) → free s m) → {s : S} {start : ℕ} {at : Standing} {f : Bool} (x y : List ℕ) → HasFrameRoom held free s start at f (x ++ y) → HasFrameRoom held free s start at f x
    room_of_front fewer {s} {start} {at} {f} x y r =
        let a = made_grows r.d x in
        let b : length (made (r.d ++ x)) ≤ length (made (r.d ++ (x ++ y))) = rw append_assoc at (made_grows (r.d ++ x) y) in
        let e : length (made (r.d ++ (x ++ y))) - length (made r.d) + 1 ≡ (length (made (r.d ++ x)) - length (made r.d) + 1) + (length (made (r.d ++ (x ++ y))) - length (made (r.d ++ x))) = omega arith in
        record {
          before = r.before;
          d = r.d;
          holds = r.holds;
          enough = fewer s _ _ (subst (λ n. free s n) e r.enough);
          few = omega (arith, r.few);
        }

    -- If data has room, so has its rest once a front of it is taken.
    pub room_of_rest : {reaches : S → S → Type 0} {s t : S} {start start' : ℕ} {at at' : Standing} {f f' : Bool} (x y : List ℕ) (r : HasFrameRoom held free s start at f (x ++ y)) → HoldsOpen held t start' at' f' r.before (r.d ++ x) → LeavesFrame held free reaches s f t f' → HasFrameRoom held free t start' at' f' y
    room_of_rest {reaches} {s} {t} {start} {start'} {at} {at'} {f} {f'} x y r h l =
        let a = made_grows r.d x in
        let q = append_assoc r.d x y in
        let b = made_grows (r.d ++ x) y in
        let c : length (made ((r.d ++ x) ++ y)) ≡ length (made (r.d ++ (x ++ y))) = ap (λ z. length (made z)) q in
        let m = holds_made r.holds in
        let n = holds_made h in
        let k : length (held t) ≡ length (held s) + (length (made (r.d ++ x)) - length (made r.d)) = omega arith in
        let e : length (made (r.d ++ (x ++ y))) - length (made r.d) + 1 ≡ (length (made (r.d ++ x)) - length (made r.d)) + (length (made ((r.d ++ x) ++ y)) - length (made (r.d ++ x)) + 1) = omega arith in
        record {
          before = r.before;
          d = r.d ++ x;
          holds = h;
          enough = l.keeps_free h.going _ _ k (subst (λ n. free s n) e r.enough);
          few = omega (arith, r.few);
        }

    module _ {reaches : S → S → Type 0} where
      -- Without a push the storage is unchanged.
      pub leaves_self : ((s : S) → reaches s s) → (s : S) (f : Bool) → LeavesFrame held free reaches s f s f
      leaves_self r s f = record {
        inner = r s;
        stays_failed = λ h. h;
        grows = λ _. omega arith;
        keeps_free = λ _ k n e h. let z : k + n ≡ n = omega arith in subst (λ m. free s m) z h;
      }

      -- Pushes followed by pushes are pushes.
      pub leaves_join : ((s t u : S) → reaches s t → reaches t u → reaches s u) → {s t u : S} {f f' f'' : Bool} → LeavesFrame held free reaches s f t f' → LeavesFrame held free reaches t f' u f'' → LeavesFrame held free reaches s f u f''
      leaves_join join {s} {t} {u} {f} {f'} {f''} p q = record {
        inner = join s t u p.inner q.inner;
        stays_failed = λ h. q.stays_failed (p.stays_failed h);
        grows = λ g. omega (arith, q.grows g, p.grows (still_going f' f'' q.stays_failed g));
        keeps_free = λ g k n e h.
            let g' = still_going f' f'' q.stays_failed g in
            let a = p.grows g' in let b = q.grows g in
            let i : ℕ = length (held t) - length (held s) in
            let j : ℕ = length (held u) - length (held t) in
            let c : length (held t) ≡ length (held s) + i = omega arith in
            let d : length (held u) ≡ length (held t) + j = omega arith in
            let z : k + n ≡ i + (j + n) = omega arith in
            q.keeps_free g j n d (p.keeps_free g' i (j + n) c (subst (λ m. free s m) z h));
      }

      -- Two proofs of what pushes leave are equal.
      pub leaves_prop : ((s t : S) → IsProp (reaches s t)) → ((s : S) (n : ℕ) → IsProp (free s n)) → (s : S) (f : Bool) (t : S) (g : Bool) → IsProp (LeavesFrame held free reaches s f t g)
      leaves_prop p q s f t g = hlevel (p, q, le_prop, Bool-set)
