-- The greatest sizes of options, results, arrays and lists of a fixed capacity, from those of their contents. The format's chapters are
-- "option", "newtype_variant", "tuple" and "seq" (wire format 1.0).
use Rattle.std.proofs.Common.{◌≡◌, ℕ, zero, suc, ◌+◌, ◌*◌, ◌^◌, ◌<◌, ◌≤◌, inl, inr, true, false, Option, Some, None, length, refl, ap, arith, length-append, nat_lt}
use Rattle.std.specs.Prelude.{max, if◌then◌else◌, List, Any, IsSomeAnd}
use Rattle.std.proofs.lemmas.Bool.{cases_lt}
use Rattle.std.proofs.Math.Nat.{mul-le-mul_right}
use Rattle.postcard_wire.specs.Number.{digits}
use Rattle.postcard_wire.specs.Tree.{Tree, Trees, Group, Seq, Present, Variant, NoTrees, Then, count}
use Rattle.postcard_wire.specs.Spelling.{canonical, canonical_all}
use Rattle.postcard_wire.specs.Reading.{IsOption, IsArray, IsVariant, Each}
use Rattle.postcard_shape.specs.Options.{result_refusal, ResultReads}
use Rattle.postcard_shape.specs.Lists.{IsFewSeq}
use Rattle.postcard_max.specs.Sizes.{limited, sum_of, times, greater_of, varint_len}
use Rattle.postcard_max.specs.SizeLimit.{SizeLimit, option_limit, result_limit, array_limit, few_limit}
use Rattle.postcard_max.specs.Limits.{AreBounded, IsReached, IsLimit, tree_len, limited_bounded, limited_reached}
use Rattle.postcard_max.specs.Willing.{option_never, result_never, any_never}
use Rattle.postcard_max.specs.Counts.{longer_counts, count_len, one_count}
use Rattle.postcard_wire.specs.declared.error.Error.{Error}

-- The greatest size of an option is 1 byte, and that of its value.
longest_option : (m : ℕ) (reads : Tree → Type 0) → ((t : Tree) → reads t → tree_len t ≤ m) → (t : Tree) → IsOption reads t → tree_len t ≤ 1 + m
longest_option m reads h t (inl e) = rw e (omega arith)
longest_option m reads h t (inr f) = rw f.1 (omega (arith, h f.0 f.2))

option_bounded : (g : Option ℕ) (reads : Tree → Type 0) → AreBounded g reads → AreBounded (sum_of (Some 1) g) (IsOption reads)
option_bounded None reads h = tt
option_bounded (Some m) reads h = limited_bounded tree_len (1 + m) (IsOption reads) (longest_option m reads h)

option_reached : (g : Option ℕ) (reads : Tree → Type 0) → IsReached g reads → IsReached (sum_of (Some 1) g) (IsOption reads)
option_reached None reads h = tt
option_reached (Some m) reads h = limited_reached tree_len (1 + m) (IsOption reads) (Present h.0, inr (h.0, refl, h.1), omega (arith, h.2))

-- The limit of an option holds if that of its content does.
pub option_lawful : {V : Type 0} {l : SizeLimit} {reads : Tree → Type 0} {refusal : V → Error → Type 0} → IsLimit l reads refusal → IsLimit (option_limit l) (IsOption reads) (λ v e. IsSomeAnd v (λ x. refusal x e))
option_lawful {l = l} {reads = reads} {refusal = refusal} h = record {
  bounded = option_bounded l.greatest reads h.bounded;
  is_reached = λ r. option_reached l.greatest reads (h.is_reached r);
  never_refuses = λ w. option_never refusal (h.never_refuses w);
}

-- The greatest size of a result is 1 byte for its index, and the greater of the sizes of its
-- contents.
longest_result : (a b : ℕ) (F G : Tree → Type 0) → ((t : Tree) → F t → tree_len t ≤ a) → ((t : Tree) → G t → tree_len t ≤ b) → (t : Tree) → IsVariant (ResultReads F G) t → tree_len t ≤ 1 + max a b
longest_result a b F G h k t (zero, s, e, few, f) = rw e (omega (arith, h s f, one_count 0 (omega arith), length-append (digits 0) (canonical s)))
longest_result a b F G h k t (suc zero, s, e, few, f) = rw e (omega (arith, k s f, one_count 1 (omega arith), length-append (digits 1) (canonical s)))
longest_result a b F G h k t (suc (suc i), s, e, few, f) = absurd f

result_bounded : (a b : Option ℕ) (F G : Tree → Type 0) → AreBounded a F → AreBounded b G → AreBounded (sum_of (Some 1) (greater_of a b)) (IsVariant (ResultReads F G))
result_bounded None b F G h k = tt
result_bounded (Some a) None F G h k = tt
result_bounded (Some a) (Some b) F G h k = limited_bounded tree_len (1 + max a b) (IsVariant (ResultReads F G)) (longest_result a b F G h k)

result_reached : (a b : Option ℕ) (F G : Tree → Type 0) → IsReached a F → IsReached b G → IsReached (sum_of (Some 1) (greater_of a b)) (IsVariant (ResultReads F G))
result_reached None b F G h k = tt
result_reached (Some a) None F G h k = tt
result_reached (Some a) (Some b) F G h k = limited_reached tree_len (1 + max a b) (IsVariant (ResultReads F G)) (elim (cases_lt a b) [
  | inl less ↦ (Variant 1 k.0, (1, k.0, refl, omega arith, k.1), omega (arith, k.2, less, one_count 1 (omega arith), length-append (digits 1) (canonical k.0)))
  | inr more ↦ (Variant 0 h.0, (0, h.0, refl, omega arith, h.1), omega (arith, h.2, more, one_count 0 (omega arith), length-append (digits 0) (canonical h.0)))
])

-- The limit of a result holds if those of its contents do.
pub result_lawful : {V W : Type 0} {l m : SizeLimit} {F G : Tree → Type 0} {good : V → Error → Type 0} {bad : W → Error → Type 0} → IsLimit l F good → IsLimit m G bad → IsLimit (result_limit l m) (IsVariant (ResultReads F G)) (result_refusal good bad)
result_lawful {l = l} {m = m} {F = F} {G = G} {good = good} {bad = bad} h k = record {
  bounded = result_bounded l.greatest m.greatest F G h.bounded k.bounded;
  is_reached = λ r. result_reached l.greatest m.greatest F G (h.is_reached r.0) (k.is_reached r.1);
  never_refuses = λ w. result_never good bad (h.never_refuses w.0) (k.never_refuses w.1);
}

-- The greatest size of an array of n elements is n times that of an element.
suc_times : (n m : ℕ) → suc n * m ≡ m + n * m
suc_times n m = omega arith

each_bounded : (m : ℕ) (reads : Tree → Type 0) → ((t : Tree) → reads t → tree_len t ≤ m) → (ts : Trees) → Each reads ts → length (canonical_all ts) ≤ count ts * m
each_bounded m reads h NoTrees e = omega arith
each_bounded m reads h (Then t ts) e = omega (arith, suc_times (count ts) m, h t e.0, each_bounded m reads h ts e.1, length-append (canonical t) (canonical_all ts))

array_bounded : (n : ℕ) (g : Option ℕ) (reads : Tree → Type 0) → AreBounded g reads → AreBounded (times n g) (IsArray n reads)
array_bounded n None reads h = tt
array_bounded n (Some m) reads h = limited_bounded tree_len (n * m) (IsArray n reads) (λ t f. rw (f.1, ← f.2) (each_bounded m reads h f.0 f.3))

-- The row of n copies of the tree.
copies : ℕ → Tree → Trees
copies zero t = NoTrees
copies (suc n) t = Then t (copies n t)

copies_count : (n : ℕ) (t : Tree) → count (copies n t) ≡ n
unfolding copies
copies_count zero t = refl
copies_count (suc n) t = ap (λ k. suc k) (copies_count n t)

copies_each : (reads : Tree → Type 0) (n : ℕ) (t : Tree) → reads t → Each reads (copies n t)
unfolding copies
copies_each reads zero t f = tt
copies_each reads (suc n) t f = (f, copies_each reads n t f)

copies_length : (n m : ℕ) (t : Tree) → tree_len t ≡ m → length (canonical_all (copies n t)) ≡ n * m
unfolding copies
copies_length zero m t e = omega arith
copies_length (suc n) m t e = omega (arith, suc_times n m, e, copies_length n m t e, length-append (canonical t) (canonical_all (copies n t)))

array_reached : (n : ℕ) (g : Option ℕ) (reads : Tree → Type 0) → IsReached g reads → IsReached (times n g) (IsArray n reads)
array_reached n None reads h = tt
array_reached n (Some m) reads h =
    limited_reached tree_len (n * m) (IsArray n reads) (Group (copies n h.0), (copies n h.0, refl, copies_count n h.0, copies_each reads n h.0 h.1), copies_length n m h.0 h.2)

-- The limit of an array holds if that of its elements does.
pub array_lawful : {V : Type 0} {l : SizeLimit} {reads : Tree → Type 0} {refusal : V → Error → Type 0} (n : ℕ) → IsLimit l reads refusal → IsLimit (array_limit n l) (IsArray n reads) (λ (v : List V) e. Any (λ x. refusal x e) v)
array_lawful {l = l} {reads = reads} {refusal = refusal} n h = record {
  bounded = array_bounded n l.greatest reads h.bounded;
  is_reached = λ r. array_reached n l.greatest reads (h.is_reached r);
  never_refuses = λ w. any_never refusal (h.never_refuses w);
}

-- The greatest size of a list of at most cap elements is cap times that of an element, and that of
-- the count cap.
counted_bounded : (n d : ℕ) (reads : Tree → Type 0) → ((t : Tree) → reads t → tree_len t ≤ n + d) → AreBounded (sum_of (limited n) (Some d)) reads
counted_bounded n d reads h = elim (nat_lt n (2 ^ 64)) as (λ v. AreBounded (sum_of (if v then Some n else None) (Some d)) reads) [ true ↦ limited_bounded tree_len (n + d) reads h | false ↦ tt ]

counted_reached : (n d : ℕ) (reads : Tree → Type 0) → ((t : Tree) × reads t × (tree_len t ≡ n + d)) → IsReached (sum_of (limited n) (Some d)) reads
counted_reached n d reads h = elim (nat_lt n (2 ^ 64)) as (λ v. IsReached (sum_of (if v then Some n else None) (Some d)) reads) [ true ↦ limited_reached tree_len (n + d) reads h | false ↦ tt ]

longest_few : (cap m : ℕ) (reads : Tree → Type 0) → ((t : Tree) → reads t → tree_len t ≤ m) → (t : Tree) → IsFewSeq cap reads t → tree_len t ≤ cap * m + varint_len cap
longest_few cap m reads h t f =
    let p : count f.0 * m ≤ cap * m = mul-le-mul_right m f.2 in
    rw f.1 (omega (arith, p, longer_counts (count f.0) cap f.2, each_bounded m reads h f.0 f.4, length-append (digits (count f.0)) (canonical_all f.0)))

few_bounded : (cap : ℕ) (g : Option ℕ) (reads : Tree → Type 0) → AreBounded g reads → AreBounded (sum_of (times cap g) (Some (varint_len cap))) (IsFewSeq cap reads)
few_bounded cap None reads h = tt
few_bounded cap (Some m) reads h = counted_bounded (cap * m) (varint_len cap) (IsFewSeq cap reads) (longest_few cap m reads h)

few_reached : (cap : ℕ) → cap < 2 ^ 64 → (g : Option ℕ) (reads : Tree → Type 0) → IsReached g reads → IsReached (sum_of (times cap g) (Some (varint_len cap))) (IsFewSeq cap reads)
few_reached cap fits None reads h = tt
few_reached cap fits (Some m) reads h =
    let c = copies_count cap h.0 in
    counted_reached (cap * m) (varint_len cap) (IsFewSeq cap reads) (
      Seq (copies cap h.0),
      (copies cap h.0, refl, omega arith, omega (arith, c, fits), copies_each reads cap h.0 h.1),
      omega (arith, copies_length cap m h.0 h.2, length-append (digits (count (copies cap h.0))) (canonical_all (copies cap h.0)), ap (λ n. length (digits n)) c, count_len cap),
    )

-- The limit of a list of at most cap elements holds if that of its elements does.
pub few_lawful : {V : Type 0} {l : SizeLimit} {reads : Tree → Type 0} {refusal : V → Error → Type 0} (cap : ℕ) → IsLimit l reads refusal → IsLimit (few_limit cap l) (IsFewSeq cap reads) (λ (v : List V) e. Any (λ x. refusal x e) v)
few_lawful {l = l} {reads = reads} {refusal = refusal} cap h = record {
  bounded = few_bounded cap l.greatest reads h.bounded;
  is_reached = λ r. few_reached cap r.1 l.greatest reads (h.is_reached r.0);
  never_refuses = λ w. any_never refusal (h.never_refuses w);
}
