-- The sizes of parts in a row and of variants, one after the other.
use Rattle.std.proofs.Common.{◌≡◌, ◌⊎◌, inl, inr, ℕ, ◌+◌, ◌<◌, ◌≤◌, ◌^◌, List, [], ◌∷◌, length, drop, get_or, sym, ap, subst, ◌∙◌, arith}
use Rattle.std.specs.Prelude.{Option, Some, None}
use Rattle.std.proofs.lemmas.Bool.{cases_lt}
use Rattle.std.proofs.lemmas.List.{at_drop_more}
use Rattle.std.proofs.Math.ListN.{drop_of_length-le}
use Rattle.postcard_wire.specs.Tree.{Tree, Trees}
use Rattle.postcard_wire.specs.Reading.{IsGroup, IsVariant}
use Rattle.postcard_schema.specs.Lemmas.{content_at, no_content_at}
use Rattle.postcard_schema.specs.Meaning.{MessageType, MessageTypes, no_types, then_type, contents, reads, reads_all, reads_at, type_of, types_of}
use Rattle.postcard_schema.specs.declared.schema.Named.{Named}
use Rattle.postcard_schema.specs.declared.schema.Schema.{Schema}
use Rattle.postcard_max.specs.Sizes.{sum_of, greater_of, varint_len}
use Rattle.postcard_schema_size.specs.Least.{IsLeastSize, IsLeastOfRow, IsVariantAt, lesser_of}
use Rattle.postcard_schema_size.specs.Sizes.{limit, limit_all, limit_from}
use Rattle.postcard_schema_size.specs.declared.sizes.Sizes.{Sizes}
use Rattle.postcard_schema_size.proofs.Sums.{IsSmall, sum_small, small, sums, greaters, zero_first, zero_last}
use Rattle.postcard_schema_size.proofs.LeastLemmas.{end_least, then_least, group_least, same_least, lesser_least}

-- The list from index k on, under f: within the list it is the element at k and the list from k + 1 on. Past its end it is empty.
module _ {X Y : Type 0} (f : List X → Y) (xs : List X) (k : ℕ) where
  pub cut : (x : X) → k < length xs → x ≡ get_or xs k x → f (drop k xs) ≡ f (x ∷ drop (k + 1) xs)
  cut x low is = at_drop_more f xs k x low ∙ ap (λ y. f (y ∷ drop (k + 1) xs)) (sym is)

  pub ended : length xs ≤ k → f (drop k xs) ≡ f []
  ended high = ap f (drop_of_length-le xs high)

-- The types of the contents of a list, in the same order.
abbrev pub content_types : List (Named Schema) → MessageTypes
content_types ns = types_of (contents ns)

abbrev greatest_all : MessageTypes → Option ℕ
greatest_all ts = (limit_all ts).greatest

abbrev greatest_from : MessageTypes → ℕ → Option ℕ
greatest_from ts i = (limit_from ts (Some i)).greatest

-- ---- Parts in a row

-- These sizes and those of the types that are left have the sums that are the sizes of all types. Both are of 64 bits, or none.
pub record Total (sizes : Sizes) (left all : MessageTypes) : Type 0 where
  pub small_least : IsSmall sizes.least
  pub small_greatest : IsSmall sizes.greatest
  pub least : (rest : Option ℕ) → IsLeastOfRow rest (reads_all left) → IsLeastOfRow (sum_of sizes.least rest) (reads_all all)
  pub greatest : sum_of sizes.greatest (greatest_all left) ≡ greatest_all all

row_small : (ts : MessageTypes) → IsSmall (greatest_all ts)
row_small no_types = omega arith
row_small (then_type t ts) = sum_small (limit t).greatest (greatest_all ts)

least_small : (g : Option ℕ) (has : Trees → Type 0) → IsLeastOfRow g has → IsSmall g
least_small None has h = tt
least_small (Some n) has h = h.fits

-- `Total` holds before the first part, with sizes of 0.
pub total_begin : (sizes : Sizes) (ts : MessageTypes) → sizes.least ≡ Some 0 → sizes.greatest ≡ Some 0 → Total sizes ts ts
total_begin sizes ts l g = record {
  small_least = rw l (omega arith);
  small_greatest = rw g (omega arith);
  least = λ rest h. rw (l, zero_first rest (least_small rest (reads_all ts) h)) h;
  greatest = rw (g, zero_first (greatest_all ts) (row_small ts));
}

-- `Total` holds after one more part, with its sizes added.
pub total_step : (before part after : Sizes) (t : MessageType) (left rest all : MessageTypes) → left ≡ then_type t rest
    → IsLeastSize part.least (reads t) → part.greatest ≡ (limit t).greatest
    → after.least ≡ sum_of before.least part.least → after.greatest ≡ sum_of before.greatest part.greatest → Total before left all → Total after rest all
total_step before part after t left rest all here least is l g total = record {
  small_least = rw l (sum_small before.least part.least);
  small_greatest = rw g (sum_small before.greatest part.greatest);
  least = λ others h. rw (l, sums before.least part.least others)
      (total.least (sum_of part.least others) (rw here (then_least part.least others (reads t) (reads_all rest) least h)));
  greatest = rw (g, sums before.greatest part.greatest (greatest_all rest), is) (rw here at total.greatest);
}

-- If no type is left, `Total` gives the sizes of the group of all types.
pub total_end : (sizes : Sizes) (left all : MessageTypes) → left ≡ no_types → Total sizes left all
    → IsLeastSize sizes.least (IsGroup (reads_all all)) × (sizes.greatest ≡ greatest_all all)
total_end sizes left all none total = (
  group_least sizes.least (reads_all all) (rw (zero_last sizes.least total.small_least) at (total.least (Some 0) (rw none end_least))),
  sym (zero_last sizes.greatest total.small_greatest) ∙ (rw none at total.greatest),
)

-- ---- Variants

-- The variants at the first k indices.
abbrev Below : ℕ → List (Named Schema) → Tree → Type 0
Below k ns = IsVariant (λ i s. (i < k) × reads_at (content_types ns) i s)

-- An index below `k + 1` is below `k`, or is `k`.
below_or_at : (i k : ℕ) → i < k + 1 → (i < k) ⊎ (i ≡ k)
below_or_at i k h = elim (cases_lt i k) [ inl low ↦ inl low | inr high ↦ inr (omega (arith, h, high)) ]

-- The variants below k + 1 are those below k and the one at k, so their least size is the lesser of both.
module _ (ns : List (Named Schema)) (k : ℕ) (n : Named Schema) (low : k < length ns) (is : n ≡ get_or ns k n) where
  same : reads_at (content_types ns) k ≡ reads (type_of n.content)
  same = content_at ns k n low is

  split : (t : Tree) → Below (k + 1) ns t → Below k ns t ⊎ IsVariantAt k (reads (type_of n.content)) t
  split t (i, s, e, few, (below, r)) = elim (below_or_at i k below) [
    | inl less ↦ inl (i, s, e, few, (less, r))
    | inr equal ↦ inr (s, rw (← equal) e, rw (← equal) few, subst (λ (has : Tree → Type 0). has s) same (subst (λ j. reads_at (content_types ns) j s) equal r))
  ]

  before : (t : Tree) → Below k ns t → Below (k + 1) ns t
  before t (i, s, e, few, (below, r)) = (i, s, e, few, (omega (arith, below), r))

  here : (t : Tree) → IsVariantAt k (reads (type_of n.content)) t → Below (k + 1) ns t
  here t (s, e, few, r) = (k, s, e, few, (omega arith, subst (λ (has : Tree → Type 0). has s) (sym same) r))

  one_more : (a b : Option ℕ) → IsLeastSize a (Below k ns) → IsLeastSize b (IsVariantAt k (reads (type_of n.content)))
      → IsLeastSize (lesser_of a b) (Below (k + 1) ns)
  one_more a b = lesser_least (Below k ns) (IsVariantAt k (reads (type_of n.content))) (Below (k + 1) ns) split before here a b

within : (ns : List (Named Schema)) (i k : ℕ) (s : Tree) → length ns ≤ k → reads_at (content_types ns) i s → i < k
within ns i k s high r = elim (cases_lt i k) [ inl low ↦ low | inr past ↦ absurd (no_content_at ns i s (λ low. omega (arith, high, past, low)) r) ]

-- Once all variants are counted, the least size is that of the enum.
pub all_below : (ns : List (Named Schema)) (k : ℕ) (a : Option ℕ) → length ns ≤ k → IsLeastSize a (Below k ns)
    → IsLeastSize a (IsVariant (reads_at (content_types ns)))
all_below ns k a high = same_least a (Below k ns) (IsVariant (reads_at (content_types ns)))
    (λ t (i, s, e, few, (below, r)). (i, s, e, few, r)) (λ t (i, s, e, few, r). (i, s, e, few, (within ns i k s high r, r)))

-- The least of these sizes is that of the first k variants. The greatest, with that of the variants after them, is that of all.
pub record Best (sizes : Sizes) (k : ℕ) (ns : List (Named Schema)) : Type 0 where
  pub least : IsLeastSize sizes.least (Below k ns)
  pub greatest : greater_of sizes.greatest (greatest_from (content_types (drop k ns)) k) ≡ greatest_from (content_types ns) 0

-- One variant more keeps the lesser of the least sizes and the greater of the greatest.
pub best_step : (before variant after : Sizes) (ns : List (Named Schema)) (k : ℕ) (n : Named Schema) → k < length ns → k + 1 < 2 ^ 64 → n ≡ get_or ns k n
    → IsLeastSize variant.least (IsVariantAt k (reads (type_of n.content))) → variant.greatest ≡ sum_of (Some (varint_len k)) (limit (type_of n.content)).greatest
    → after.least ≡ lesser_of before.least variant.least → after.greatest ≡ greater_of before.greatest variant.greatest → Best before k ns → Best after (k + 1) ns
best_step before variant after ns k n low few at least is l g best =
    let rest = content_types (drop (k + 1) ns) in
    let next : sum_of (Some k) (Some 1) ≡ Some (k + 1) = small (k + 1) few in
    record {
      least = rw l (one_more ns k n low at before.least variant.least best.least least);
      greatest = rw (g, greaters before.greatest variant.greatest (greatest_from rest (k + 1)), is)
          (ap (λ i. greater_of before.greatest (greater_of (sum_of (Some (varint_len k)) (limit (type_of n.content)).greatest) (limit_from rest i).greatest)) (sym next)
          ∙ sym (cut (λ ms. greater_of before.greatest (greatest_from (content_types ms) k)) ns k n low at) ∙ best.greatest);
    }
