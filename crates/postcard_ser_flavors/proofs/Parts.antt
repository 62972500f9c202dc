-- A list cut at a place, and its pieces appended one after the other.
use Rattle.std.proofs.Common.{◌≡◌, ℕ, ◌+◌, ◌<◌, List, [], ◌∷◌, ◌++◌, length, take, drop, get_or, sym, ap, ◌∙◌, append_assoc, arith}
use Rattle.std.proofs.lemmas.Grind.{common_steps}
use Rattle.postcard_ser_flavors.specs.Flavor.{AppendsFront}

-- A list is its elements before place k, the one there, and those after it.
pub cut_at : (xs : List ℕ) (k : ℕ) → k < length xs → xs ≡ take k xs ++ ((get_or xs k 0 ∷ []) ++ drop (k + 1) xs)
cut_at xs k h = grind (arith, common_steps)

module _ {S : Type 0} {appended : S → List ℕ → S → Type 0} where
  -- A piece followed by a beginning of the next is a beginning of both.
  pub begins_then : ((s t u : S) (x y : List ℕ) → appended s x t → appended t y u → appended s (x ++ y) u) → {s t u : S} (x y : List ℕ) → appended s x t → AppendsFront appended t y u → AppendsFront appended s (x ++ y) u
  begins_then join {s} {t} {u} x y a b = record {
    front = x ++ b.front;
    rest = b.rest;
    joins = ap (λ z. x ++ z) b.joins ∙ sym (append_assoc x b.front b.rest);
    given = join s t u x b.front a b.given;
  }

  -- A beginning of a piece is one of any longer piece.
  pub begins_more : {s t : S} (x y : List ℕ) → AppendsFront appended s x t → AppendsFront appended s (x ++ y) t
  begins_more {s} {t} x y b = record {
    front = b.front;
    rest = b.rest ++ y;
    joins = ap (λ z. z ++ y) b.joins ∙ append_assoc b.front b.rest y;
    given = b.given;
  }
