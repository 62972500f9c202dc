-- The shapes of spans and points of time: seconds and nanoseconds (behaviour of serde's impls for
-- `Duration` and `SystemTime`).
use Rattle.std.proofs.Common.{sym, ◌∙◌, ap, refl, inl, inr, arith}
use Rattle.std.specs.Duration.{as_nanos}
use Rattle.std.specs.Prelude.{ℕ, ◌/◌, ◌%◌, ◌≡◌, ◌+◌, ◌*◌, ◌<◌, ◌^◌}
use Rattle.std.specs.Time.{FitsClock, system_time_nanos}
use Rattle.std.specs.declared.time.Duration.{Duration}
use Rattle.std.specs.declared.time.SystemTime.{SystemTime}
use Rattle.postcard_wire.proofs.Delimited.{num_delimited, end_delimited, then_delimited, group_delimited, fewer_delimited}
use Rattle.postcard_wire.proofs.WellFormed.{num_well_formed, end_well_formed, then_well_formed, group_well_formed}
use Rattle.postcard_wire.specs.Reading.{IsNum, IsEnd, IsThen, IsGroup}
use Rattle.postcard_wire.specs.Tree.{Tree, Num, Group, NoTrees, Then}
use Rattle.postcard_wire.specs.declared.error.Error.TheVariants.{SerdeSerCustom}
use Rattle.postcard_shape.specs.Only.{only}
use Rattle.postcard_shape.specs.Refusing.{refusing}
use Rattle.postcard_shape.specs.Rows.{pair_tree}
use Rattle.postcard_shape.specs.Shape.{HasOne, Shape, never, via}

-- The tree of a span of n nanoseconds: its whole seconds, and the nanoseconds beyond them.
abbrev pub duration_tree : ℕ → Tree
duration_tree n = pair_tree (Num 64 (n / 1_000_000_000)) (Num 32 (n % 1_000_000_000))

-- The tree of s seconds followed by n nanoseconds.
abbrev pub span : ℕ → ℕ → Tree
span s n = Group (Then (Num 64 s) (Then (Num 32 n) NoTrees))

-- The tree is a number of seconds and one of nanoseconds. Whole seconds of the nanoseconds are
-- carried, and the seconds then fit 64 bits (behaviour of serde's reader of `Duration`).
abbrev pub IsSpan : Tree → Type 0
IsSpan t = (s : ℕ) × (n : ℕ) × (t ≡ span s n) × (s < 2 ^ 64) × (n < 2 ^ 32) × (s + n / 1_000_000_000 < 2 ^ 64)

-- The duration has the length in nanoseconds that the tree says.
abbrev pub SpanIs : Tree → Duration → Type 0
SpanIs t v = (s : ℕ) × (n : ℕ) × (t ≡ span s n) × (as_nanos v ≡ s * 1_000_000_000 + n)

-- The tree has the parts of a span, whether their sum fits or not.
abbrev pub AnySpan : Tree → Type 0
AnySpan = IsGroup (IsThen (IsNum 64) (IsThen (IsNum 32) IsEnd))

-- The tree of a span has the parts of a span.
pub span_parts : (t : Tree) → IsSpan t → AnySpan t
span_parts t (s, n, e, low, few, fits) = (Then (Num 64 s) (Then (Num 32 n) NoTrees), e, (Num 64 s, Then (Num 32 n) NoTrees, refl, (s, refl, low), (Num 32 n, NoTrees, refl, (n, refl, few), refl)))

seconds_same : (s n r m : ℕ) → span s n ≡ span r m → s ≡ r
seconds_same s n r m e = cc

nanos_same : (s n r m : ℕ) → span s n ≡ span r m → n ≡ m
nanos_same s n r m e = cc

-- The durations of one tree have the same length.
pub span_one : HasOne SpanIs (λ v w. as_nanos v ≡ as_nanos w)
span_one t v w (s, n, e, a) (r, m, f, b) =
    let x = seconds_same s n r m (sym e ∙ f) in
    let y = nanos_same s n r m (sym e ∙ f) in
    a ∙ (ap (λ (i : ℕ). i * 1_000_000_000 + n) x ∙ (ap (λ (i : ℕ). r * 1_000_000_000 + i) y ∙ sym b))

whole : (n : ℕ) → (n % 1_000_000_000) / 1_000_000_000 ≡ 0
whole n = omega arith

parts : (n : ℕ) → n ≡ n / 1_000_000_000 * 1_000_000_000 + n % 1_000_000_000
parts n = omega arith

pub span_again : (v : Duration) (n : ℕ) → as_nanos v ≡ n → n / 1_000_000_000 < 2 ^ 64 → IsSpan (duration_tree n) × SpanIs (duration_tree n) v
span_again v n e f = ((n / 1_000_000_000, n % 1_000_000_000, refl, f, omega arith, omega arith), (n / 1_000_000_000, n % 1_000_000_000, refl, e ∙ parts n))

-- The shape of a span of time.
abbrev pub span_of_time : Shape Duration
span_of_time = record {
  tree = λ v. duration_tree (as_nanos v);
  refusal = λ v. never;
  text = ⊥;
  reads = IsSpan;
  value = SpanIs;
  same = λ v w. as_nanos v ≡ as_nanos w;
  other = never;
  fits = λ v. as_nanos v / 1_000_000_000 < 2 ^ 64;
  delimited = fewer_delimited IsSpan AnySpan span_parts (group_delimited _ (then_delimited _ _ (num_delimited 64) (then_delimited _ _ (num_delimited 32) end_delimited)));
  well_formed = λ t r. group_well_formed _ (then_well_formed _ _ (num_well_formed 64 (inr (inr (inl refl)))) (then_well_formed _ _ (num_well_formed 32 (inr (inl refl))) end_well_formed)) t (span_parts t r);
  one_value = span_one;
  again = λ v f. span_again v (as_nanos v) refl f;
}

-- The shape of a point of time: the span since the beginning of 1970, of fewer than 2 ^ 63 seconds. A
-- point beyond that refuses itself, with `SerdeSerCustom`.
abbrev pub point_of_time : Shape SystemTime
point_of_time = refusing (λ v e. (FitsClock (system_time_nanos v) → ⊥) × (e ≡ SerdeSerCustom)) (via (λ v. v.since_1970) (only (λ d. FitsClock (as_nanos d)) span_of_time))
