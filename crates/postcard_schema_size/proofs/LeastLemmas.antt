-- The least sizes of groups, of variants and of two sets together.
use Rattle.std.proofs.Common.{◌≡◌, ◌⊎◌, inl, inr, ℕ, ◌+◌, ◌<◌, ◌≤◌, ◌^◌, refl, arith, length-append}
use Rattle.std.specs.Prelude.{Option, Some, None}
use Rattle.std.proofs.lemmas.Bool.{cases_lt}
use Rattle.postcard_wire.specs.Number.{digits}
use Rattle.postcard_wire.specs.Tree.{Tree, Trees, Group, Variant, NoTrees, Then}
use Rattle.postcard_wire.specs.Spelling.{canonical, canonical_all}
use Rattle.postcard_wire.specs.Reading.{IsEnd, IsThen, IsGroup}
use Rattle.postcard_max.specs.Sizes.{sum_of, varint_len}
use Rattle.postcard_max.specs.Limits.{tree_len, trees_len}
use Rattle.postcard_max.specs.Counts.{count_len}
use Rattle.postcard_schema_size.specs.Least.{IsLeastSize, IsLeastOfRow, IsVariantAt, lesser_of}
use Rattle.postcard_schema_size.proofs.LeafLeast.{limited_least}

-- ---- Parts in a row

-- The empty row has the least size 0.
pub end_least : IsLeastOfRow (Some 0) IsEnd
end_least = record { fits = omega arith; none_shorter = λ ts e. omega arith; reached = (NoTrees, refl, refl) }

-- The least size of a row is the sum of that of its first part and that of the others.
pub then_least : (a b : Option ℕ) (first : Tree → Type 0) (rest : Trees → Type 0) → IsLeastSize a first → IsLeastOfRow b rest
    → IsLeastOfRow (sum_of a b) (IsThen first rest)
then_least None b first rest h k = λ ts (s, ss, e, f, g). rw e (omega (arith, h s f, length-append (canonical s) (canonical_all ss)))
then_least (Some a) None first rest h k = λ ts (s, ss, e, f, g). rw e (omega (arith, k ss g, length-append (canonical s) (canonical_all ss)))
then_least (Some a) (Some b) first rest h k =
    let (u, p, d) = h.reached in
    let (us, q, l) = k.reached in
    limited_least trees_len (a + b) (IsThen first rest)
    (λ ts (s, ss, e, f, g). rw e (omega (arith, h.none_shorter s f, k.none_shorter ss g, length-append (canonical s) (canonical_all ss))))
    (Then u us, (u, us, refl, p, q), omega (arith, d, l, length-append (canonical u) (canonical_all us)))

-- The least size of a group is that of its parts.
pub group_least : (g : Option ℕ) (parts : Trees → Type 0) → IsLeastOfRow g parts → IsLeastSize g (IsGroup parts)
group_least None parts h = λ t (ts, e, f). rw e (h ts f)
group_least (Some m) parts h = record {
  fits = h.fits;
  none_shorter = λ t (ts, e, f). rw e (h.none_shorter ts f);
  reached = let (ts, f, e) = h.reached in (Group ts, (ts, refl, f), e);
}

-- ---- Variants

-- The encoding of a variant is as long as its index and its content together.
variant_len : (i : ℕ) (t : Tree) → tree_len (Variant i t) ≡ varint_len i + tree_len t
variant_len i t = omega (arith, count_len i, length-append (digits i) (canonical t))

-- The least size of a variant is the sum of its index's size and its content's least size.
pub variant_least : (i : ℕ) (g : Option ℕ) (content : Tree → Type 0) → i < 2 ^ 32 → IsLeastSize g content
    → IsLeastSize (sum_of (Some (varint_len i)) g) (IsVariantAt i content)
variant_least i None content few h = λ t (s, e, low, r). rw e (omega (arith, h s r, variant_len i s))
variant_least i (Some m) content few h =
    let (u, p, d) = h.reached in
    limited_least tree_len (varint_len i + m) (IsVariantAt i content)
    (λ t (s, e, low, r). rw e (omega (arith, h.none_shorter s r, variant_len i s)))
    (Variant i u, (u, refl, few, p), omega (arith, d, variant_len i u))

-- If the index has more than 32 bits, the variant has no message, so no least size.
pub no_variant : (i : ℕ) (content : Tree → Type 0) → 2 ^ 32 ≤ i → IsLeastSize None (IsVariantAt i content)
no_variant i content many = λ t (s, e, low, r). absurd (omega (arith, low, many))

-- If R is the union of P and Q, its least size is the lesser of theirs.
module _ (P Q R : Tree → Type 0) (split : (t : Tree) → R t → P t ⊎ Q t) (one : (t : Tree) → P t → R t) (other : (t : Tree) → Q t → R t) where
  pub lesser_least : (a b : Option ℕ) → IsLeastSize a P → IsLeastSize b Q → IsLeastSize (lesser_of a b) R
  lesser_least None None h k = λ t r. elim (split t r) [ inl p ↦ h t p | inr q ↦ k t q ]
  lesser_least None (Some b) h k = record {
    fits = k.fits;
    none_shorter = λ t r. elim (split t r) [ inl p ↦ omega (arith, h t p, k.fits) | inr q ↦ k.none_shorter t q ];
    reached = let (u, q, e) = k.reached in (u, other u q, e);
  }
  lesser_least (Some a) None h k = record {
    fits = h.fits;
    none_shorter = λ t r. elim (split t r) [ inl p ↦ h.none_shorter t p | inr q ↦ omega (arith, k t q, h.fits) ];
    reached = let (u, p, e) = h.reached in (u, one u p, e);
  }
  lesser_least (Some a) (Some b) h k =
      let (u, p, d) = h.reached in
      let (v, q, e) = k.reached in
      record {
        fits = omega (arith, h.fits);
        none_shorter = λ t r. elim (split t r) [ inl x ↦ omega (arith, h.none_shorter t x) | inr y ↦ omega (arith, k.none_shorter t y) ];
        reached = elim (cases_lt a b) [ inl less ↦ (u, one u p, omega (arith, d, less)) | inr more ↦ (v, other v q, omega (arith, e, more)) ];
      }

-- If two sets have the same elements, they have the same least size.
pub same_least : (a : Option ℕ) (P Q : Tree → Type 0) → ((t : Tree) → P t → Q t) → ((t : Tree) → Q t → P t) → IsLeastSize a P → IsLeastSize a Q
same_least None P Q f g h = λ t q. h t (g t q)
same_least (Some n) P Q f g h = record {
  fits = h.fits;
  none_shorter = λ t q. h.none_shorter t (g t q);
  reached = let (t, p, e) = h.reached in (t, f t p, e);
}
