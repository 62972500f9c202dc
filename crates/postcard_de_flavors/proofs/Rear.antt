-- What is left of the scratch after bytes were taken.
use Rattle.std.proofs.Common.{◌≡◌, ℕ, zero, suc, ◌+◌, ◌≤◌, List, [], ◌∷◌, ◌++◌, length, take, drop}
use Rattle.std.proofs.Common.{refl, sym, ap, ◌∙◌, arith, append_assoc}
use Rattle.std.proofs.Math.Seq.{drop-nil}
use Rattle.std.proofs.lemmas.List.{take-append-drop, length-drop, drop-drop}
use Rattle.postcard_de_flavors.specs.Source.{KeepsRear}

-- No scratch is left of none.
pub no_scratch : (n : ℕ) → KeepsRear n [] []
no_scratch n = record { start = []; is = sym (drop-nil n); shorter = omega arith }

-- Scratch that stays as it is keeps its rear.
pub rear_same : (n : ℕ) (s : List ℕ) → KeepsRear n s s
rear_same n s = record { start = take n s; is = sym (take-append-drop n s); shorter = omega arith }

-- So does scratch of which the first bytes are used up.
pub rear_left : (n : ℕ) (s t : List ℕ) → t ≡ drop n s → KeepsRear n s t
rear_left n s t e = record { start = []; is = e; shorter = omega (arith, ap length e, length-drop n s) }

-- So does scratch of which only the first bytes have changed.
pub rear_written : (n : ℕ) (s t : List ℕ) → length t ≡ length s → drop n t ≡ drop n s → KeepsRear n s t
rear_written n s t l e = record {
  start = take n t;
  is = sym (take-append-drop n t) ∙ ap (λ r. take n t ++ r) e;
  shorter = omega arith;
}

-- What is left after k + 1 elements is at the rear of what is left after k.
one_more : (k : ℕ) (d : List ℕ) → (v : List ℕ) × (drop k d ≡ v ++ drop (suc k) d)
one_more zero [] = ([], refl)
one_more zero (b ∷ d) = (b ∷ [], refl)
one_more (suc k) [] = ([], refl)
one_more (suc k) (b ∷ d) = one_more k d

-- What is left of x and d after n elements ends with what is left of d after n.
rear_of_rear : (n : ℕ) (x d : List ℕ) → (w : List ℕ) × (drop n (x ++ d) ≡ w ++ drop n d)
rear_of_rear n [] d = ([], refl)
rear_of_rear zero (b ∷ x) d = (b ∷ x, refl)
rear_of_rear (suc k) (b ∷ x) d =
    let (w, e) = rear_of_rear k x d in
    let (v, f) = one_more k d in
    (w ++ v, e ∙ (ap (λ (l : List ℕ). w ++ l) f ∙ sym (append_assoc w v (drop (suc k) d))))

-- The rear after m bytes, and of that the rear after n, is the rear after m + n.
pub rear_joined : {m n : ℕ} {s t u : List ℕ} → KeepsRear m s t → KeepsRear n t u → KeepsRear (m + n) s u
rear_joined {m} {n} {s} {t} {u} a b =
    let (w, e) = rear_of_rear n a.start (drop m s) in
    let f : drop n t ≡ w ++ drop (m + n) s =
    ap (λ (l : List ℕ). drop n l) a.is ∙ (e ∙ ap (λ (l : List ℕ). w ++ l) (drop-drop n m s)) in
    record {
      start = b.start ++ w;
      is = b.is ∙ (ap (λ (l : List ℕ). b.start ++ l) f ∙ sym (append_assoc b.start w (drop (m + n) s)));
      shorter = omega (arith, a.shorter, b.shorter);
    }
