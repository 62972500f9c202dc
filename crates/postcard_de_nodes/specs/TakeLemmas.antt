-- Taking bytes from a source, one front after another.
use Rattle.std.proofs.Common.{◌≡◌, ℕ, ◌+◌, List, [], ◌++◌, length, Option, Some, None, refl, sym}
use Rattle.std.proofs.Common.{◌∙◌, ap, arith, append_assoc, length-append}
use Rattle.std.proofs.lemmas.List.{append_cancel_left}
use Rattle.std.specs.Io.KnownBytes.{Consumes}
use Rattle.postcard_de_flavors.proofs.Rear.{rear_same, rear_joined}
use Rattle.postcard_de_flavors.specs.Source.{Left, Begins, CanTake, Takes, Laws}

-- Consuming x and then y is consuming x ++ y.
consumes_joined : (a b c : Option (List ℕ)) (x y : List ℕ) → Consumes a b x → Consumes b c y →
    Consumes a c (x ++ y)
consumes_joined None b c x y h k = tt
consumes_joined (Some xs) None c x y h k = absurd h
consumes_joined (Some xs) (Some ys) None x y h k = absurd k
consumes_joined (Some xs) (Some ys) (Some zs) x y h k =
    h ∙ (ap (λ (r : List ℕ). x ++ r) k ∙ sym (append_assoc x y zs))

-- Consuming nothing leaves the bytes as they are.
consumes_none : (a : Option (List ℕ)) → Consumes a a []
consumes_none None = tt
consumes_none (Some xs) = refl

-- Bytes that begin with x ++ y begin with x.
begins_front : (a : Option (List ℕ)) (x y : List ℕ) → Begins a (x ++ y) → Begins a x
begins_front None x y h = absurd h
begins_front (Some xs) x y h = (y ++ h.0, h.1 ∙ append_assoc x y h.0)

-- If bytes begin with x ++ y, then those left after x begin with y.
begins_rest : (a b : Option (List ℕ)) (x y : List ℕ) → Begins a (x ++ y) → Consumes a b x →
    Begins b y
begins_rest None b x y h d = absurd h
begins_rest (Some xs) None x y h d = absurd d
begins_rest (Some xs) (Some ys) x y h d =
    (h.0, append_cancel_left x ys (y ++ h.0) (sym d ∙ (h.1 ∙ append_assoc x y h.0)))

-- What was taken from known bytes, and what they begin with, are fronts of one list.
facing : (a b : Option (List ℕ)) (p q : List ℕ) → Consumes a b p → Begins a q →
    (x : List ℕ) × (y : List ℕ) × (p ++ x ≡ q ++ y)
facing None b p q c d = absurd d
facing (Some xs) None p q c d = absurd c
facing (Some xs) (Some ys) p q c d = (ys, d.0, sym c ∙ d.1)

module _ {S : Type 0} {left : S → Left} {able : S → ℕ → Type 0} where
  -- Taking no bytes leaves the source as it is.
  pub nothing_taken : (s : S) → Takes left able s [] s
  nothing_taken s = record {
    drops = consumes_none (left s).bytes;
    scratch = rear_same 0 (left s).scratch;
    keeps = λ n h. let e : 0 + n ≡ n = omega arith in rw e at h;
  }

  -- Taking x and then y is taking x ++ y.
  pub both_taken : {s t u : S} {x y : List ℕ} → Takes left able s x t → Takes left able t y u →
      Takes left able s (x ++ y) u
  both_taken {s} {t} {u} {x} {y} a b = record {
    drops = consumes_joined (left s).bytes (left t).bytes (left u).bytes x y a.drops b.drops;
    scratch = rw length-append (rear_joined a.scratch b.scratch);
    keeps = λ n h. b.keeps n (a.keeps (length y + n)
        (let e : length (x ++ y) + n ≡ length x + (length y + n) =
        omega (arith, length-append x y) in rw e at h));
  }

  -- A front that was taken and one that can be taken are fronts of one list.
  pub faces : {s t : S} {p q : List ℕ} → Takes left able s p t → CanTake left able s q →
      (x : List ℕ) × (y : List ℕ) × (p ++ x ≡ q ++ y)
  faces {s} {t} {p} {q} a c = facing (left s).bytes (left t).bytes p q a.drops c.begins

  -- If x ++ y can be taken, x can be.
  pub can_first : {may_leave : S → S → Type 0} → Laws left able may_leave → {s : S} (x y : List ℕ) →
      CanTake left able s (x ++ y) → CanTake left able s x
  can_first laws {s} x y c = record {
    begins = begins_front (left s).bytes x y c.begins;
    enough = laws.fewer s (length x) (length (x ++ y)) (omega (arith, length-append x y)) c.enough;
  }

  -- If x ++ y can be taken and x was taken, y can be.
  pub can_second : {s t : S} (x y : List ℕ) → CanTake left able s (x ++ y) → Takes left able s x t →
      CanTake left able t y
  can_second {s} {t} x y c a = record {
    begins = begins_rest (left s).bytes (left t).bytes x y c.begins a.drops;
    enough = a.keeps (length y) (rw length-append at c.enough);
  }
