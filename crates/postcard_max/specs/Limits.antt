-- When a size is the greatest of a set of trees: no encoding is longer, and some encoding has this size. Also, when the size limit that a
-- type states holds.
use Rattle.std.specs.Prelude.{◌≡◌, ℕ, ◌^◌, ◌≤◌, nat_lt, if◌then◌else◌, length, true, false, Option, Some, None, IfSome}
use Rattle.postcard_wire.specs.Tree.{Tree, Trees}
use Rattle.postcard_wire.specs.Spelling.{canonical, canonical_all}
use Rattle.postcard_max.specs.Sizes.{limited}
use Rattle.postcard_max.specs.SizeLimit.{SizeLimit}
use Rattle.postcard_max.specs.Willing.{Never}
use Rattle.postcard_wire.specs.declared.error.Error.{Error}

-- By the measure, nothing in the set has more than `greatest` bytes, if that is a number.
abbrev pub Bounded : {X : Type 0} → (X → ℕ) → Option ℕ → (X → Type 0) → Type 0
Bounded {X} measure greatest has = IfSome greatest (λ m. (x : X) → has x → measure x ≤ m)

-- By the measure, something in the set has `greatest` bytes, if that is a number.
abbrev pub Reached : {X : Type 0} → (X → ℕ) → Option ℕ → (X → Type 0) → Type 0
Reached {X} measure greatest has = IfSome greatest (λ m. (x : X) × has x × (measure x ≡ m))

-- The number of bytes of a tree's canonical encoding, and of those of trees in a row.
abbrev pub tree_len : Tree → ℕ
tree_len t = length (canonical t)

-- The length of the canonical encodings of trees in a row.
abbrev pub trees_len : Trees → ℕ
trees_len ts = length (canonical_all ts)

-- The canonical encoding of each tree of the set has at most `greatest` bytes, if that is a number.
abbrev pub AreBounded : Option ℕ → (Tree → Type 0) → Type 0
AreBounded = Bounded tree_len

-- The canonical encoding of some tree of the set has `greatest` bytes, if that is a number.
abbrev pub IsReached : Option ℕ → (Tree → Type 0) → Type 0
IsReached = Reached tree_len

-- The same of rows of trees, by the bytes of their canonical encodings together.
abbrev pub RowBounded : Option ℕ → (Trees → Type 0) → Type 0
RowBounded = Bounded trees_len

-- Some row of the set has this size. Nothing is claimed if the size is none.
abbrev pub RowReached : Option ℕ → (Trees → Type 0) → Type 0
RowReached = Reached trees_len

-- If n bounds a set or is reached in it, so does `limited n`, which is none if n takes more than 64 bits.
pub limited_bounded : {X : Type 0} (measure : X → ℕ) (n : ℕ) (has : X → Type 0) → ((x : X) → has x → measure x ≤ n) → Bounded measure (limited n) has
limited_bounded measure n has h = elim (nat_lt n (2 ^ 64)) as (λ v. Bounded measure (if v then Some n else None) has) [ true ↦ h | false ↦ tt ]

-- If something of the set measures n, the size n is reached.
pub limited_reached : {X : Type 0} (measure : X → ℕ) (n : ℕ) (has : X → Type 0) → ((x : X) × has x × (measure x ≡ n)) → Reached measure (limited n) has
limited_reached measure n has h = elim (nat_lt n (2 ^ 64)) as (λ v. Reached measure (if v then Some n else None) has) [ true ↦ h | false ↦ tt ]

-- A limit holds of what a type reads, measured in bytes, and of the type's values.
pub record IsLimitOf {X V : Type 0} (measure : X → ℕ) (limit : SizeLimit) (reads : X → Type 0) (refusal : V → Error → Type 0) : Type 0 where
  -- No canonical encoding of what is read is longer than the greatest size.
  pub bounded : Bounded measure limit.greatest reads
  -- If `reached` holds, some encoding of what is read has this size.
  pub is_reached : limit.reached → Reached measure limit.greatest reads
  -- If `willing` holds, no value refuses itself.
  pub never_refuses : limit.willing → Never refusal

-- A limit holds of the trees that a type reads, and of the type's values.
abbrev pub IsLimit : {V : Type 0} → SizeLimit → (Tree → Type 0) → (V → Error → Type 0) → Type 0
IsLimit = IsLimitOf tree_len

-- A limit holds of trees in a row, and of the values of parts in a row.
abbrev pub IsRowLimit : {V : Type 0} → SizeLimit → (Trees → Type 0) → (V → Error → Type 0) → Type 0
IsRowLimit = IsLimitOf trees_len

-- A limit that holds of values holds of the values that are seen as those.
pub via_lawful : {X V W : Type 0} {measure : X → ℕ} {l : SizeLimit} {reads : X → Type 0} {refusal : V → Error → Type 0} (see : W → V) → IsLimitOf measure l reads refusal → IsLimitOf measure l reads (λ w. refusal (see w))
via_lawful see h = record { bounded = h.bounded; is_reached = h.is_reached; never_refuses = λ may w. h.never_refuses may (see w) }
