-- The size limit of a type: the greatest size of its encodings, computed from the limits of its
-- parts (wire format 1.0).
use Rattle.std.specs.Prelude.{ℕ, ◌≡◌, ◌<◌, ◌^◌, List, Option, Some, None, ⊤}
use Rattle.postcard_max.specs.Sizes.{sum_of, sum_all, times, greater_of, varint_len, index_len}

-- The limit that a type states, or that parts in a row state. That what it states holds is the law
-- `IsLimitOf`.
pub record SizeLimit : Type 1 where
  -- The greatest size in bytes, or none if none is known that fits `usize`.
  pub greatest : Option ℕ
  -- A condition under which some encoding has the greatest size.
  pub reached : Type 0
  -- A condition under which no value refuses itself when it is written.
  pub willing : Type 0

-- The limit has the greatest size n, which is reached if `parts` holds: that the sizes of the type's
-- parts are.
abbrev pub IsSize : SizeLimit → Option ℕ → Type 0 → Type 0
IsSize l n parts = (l.greatest ≡ n) × (parts → l.reached)

-- The limit has the sum of these sizes as its greatest size, which is reached if `parts` holds.
abbrev pub IsSum : SizeLimit → List (Option ℕ) → Type 0 → Type 0
IsSum l sizes parts = IsSize l (sum_all sizes) parts

-- The limit of a type some encoding of which has the greatest size n, and no value of which refuses
-- itself.
abbrev pub exactly : ℕ → SizeLimit
exactly n = record { greatest = Some n; reached = ⊤; willing = ⊤ }

-- The limit of an option: one byte for its tag, and the size of its content.
abbrev pub option_limit : SizeLimit → SizeLimit
option_limit l = record l { greatest = sum_of (Some 1) l.greatest }

-- The limit of a result: one byte for its index, and the greater of the sizes of its contents.
abbrev pub result_limit : SizeLimit → SizeLimit → SizeLimit
result_limit l m = record {
  greatest = sum_of (Some 1) (greater_of l.greatest m.greatest);
  reached = l.reached × m.reached;
  willing = l.willing × m.willing;
}

-- The limit of an array of n elements: n times the size of an element.
abbrev pub array_limit : ℕ → SizeLimit → SizeLimit
array_limit n l = record l { greatest = times n l.greatest }

-- The limit of a list of at most n elements: n times the size of an element, and the size of the
-- count n.
abbrev pub few_limit : ℕ → SizeLimit → SizeLimit
few_limit n l = record l { greatest = sum_of (times n l.greatest) (Some (varint_len n)); reached = l.reached × (n < 2 ^ 64) }

-- The limit of a string of at most n bytes: these, and the size of the count n.
abbrev pub short_text_limit : ℕ → SizeLimit
short_text_limit n = record { greatest = sum_of (Some n) (Some (varint_len n)); reached = n < 2 ^ 64; willing = ⊤ }

-- The limit of a part and the parts after it: the sum of both sizes.
abbrev pub then_limit : SizeLimit → SizeLimit → SizeLimit
then_limit l m = record {
  greatest = sum_of l.greatest m.greatest;
  reached = l.reached × m.reached;
  willing = l.willing × m.willing;
}

-- The index, if there is one, fits 32 bits, as that of a variant does.
abbrev pub IsIndex : Option ℕ → Type 0
IsIndex None = Unit {0}
IsIndex (Some i) = i < 2 ^ 32

-- The greatest size of no variants is 0, or none without an index.
abbrev pub no_case_greatest : Option ℕ → Option ℕ
no_case_greatest None = None
no_case_greatest (Some i) = Some 0

-- The limit of no variants, from any index on.
abbrev pub no_case_limit : Option ℕ → SizeLimit
no_case_limit i = record { greatest = no_case_greatest i; reached = ⊤; willing = ⊤ }

-- The greatest size of the variants from the index i on, from that of the first one's content and
-- of the variants after it.
abbrev pub case_greatest : Option ℕ → (Option ℕ → Option ℕ) → Option ℕ → Option ℕ
case_greatest first others i = greater_of (sum_of (index_len i) first) (others (sum_of i (Some 1)))

-- The limit of the variants from the index i on, from that of the first one's content and of the
-- variants after it.
abbrev pub case_limit : SizeLimit → (Option ℕ → SizeLimit) → Option ℕ → SizeLimit
case_limit l m i = record {
  greatest = case_greatest l.greatest (λ k. (m k).greatest) i;
  reached = IsIndex i × l.reached × (m (sum_of i (Some 1))).reached;
  willing = l.willing × (m (sum_of i (Some 1))).willing;
}

-- The limit of an enum: that of its variants from the index 0 on.
abbrev pub variants_limit : SizeLimit → (Option ℕ → SizeLimit) → SizeLimit
variants_limit l m = record (case_limit l m (Some 0)) { reached = l.reached × (m (sum_of (Some 0) (Some 1))).reached }
