-- The laws of a source, of the source over a slice: its state is the list of the bytes left.
use Rattle.std.specs.Prelude.{ℕ, ◌≤◌, List, [], ◌++◌, length, refl}
use Rattle.std.proofs.Common.{◌∙◌, sym, ap, arith, append_assoc}
use Rattle.postcard_de_flavors.specs.Source.{known, Laws, IsEndOf}

-- A list of at least n bytes has at least m bytes for m ≤ n; an end of an end of a list is an end
-- of the list.
pub slice_laws : Laws known (λ s n. n ≤ length s) (λ s t. IsEndOf t s)
slice_laws = record {
  fewer = λ s m n le enough. omega arith;
  itself = λ s. ([], refl);
  joins = λ s t u a b. (a.0 ++ b.0, a.1 ∙ (ap (λ (l : List ℕ). a.0 ++ l) b.1 ∙ sym (append_assoc a.0 b.0 u)));
}
