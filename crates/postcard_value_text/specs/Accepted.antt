-- When a text must be read. The definitions are of a reader's answers, of what may follow a value, and of types whose names tell their
-- values apart.
use Rattle.std.specs.Prelude.{◌≡◌, ◌≢◌, ℕ, ◌<◌, List, length, map, Vec, Result, IfOk, MatchResult}
use Rattle.std.specs.declared.alloc.Global.{Global}
use Rattle.postcard_wire.specs.Reading.{Each}
use Rattle.postcard_wire.specs.Tree.{Tree, trees}
use Rattle.postcard_schema_text.specs.Text.{TakesPhrase, GoesOnBy}
use Rattle.postcard_schema_text.specs.Fronts.{follows_type}
use Rattle.postcard_value.specs.declared.value.Value.{Value}
use Rattle.postcard_value.specs.Tree.{tree, IsTree}
use Rattle.postcard_value_text.specs.declared.error.Stop.{Stop}
use Rattle.postcard_value_text.specs.declared.error.Stop.TheVariants.{Memory}
use Rattle.postcard_value_text.specs.Layout.{Layout, Layouts, Fields, leaf, option, list, mapping, array, tuple, structure, choice, no_layouts, then_layout, no_fields, then_field}
use Rattle.postcard_value_text.specs.Spelled.{Speller, AreClosed, phrases}

-- None of the variants has this name.
abbrev pub AreNotCalled : List ℕ → Fields → Type 0
AreNotCalled name no_fields = Unit {0}
AreNotCalled name (then_field n x fs) = (n ≢ name) × AreNotCalled name fs

-- No two of the variants have the same name.
abbrev pub NamesDiffer : Fields → Type 0
NamesDiffer no_fields = Unit {0}
NamesDiffer (then_field n x fs) = AreNotCalled n fs × NamesDiffer fs

abbrev mutual
  -- In the type, no name is empty, and the variants of each enum have different names.
  pub HasDistinctNames : Layout → Type 0
  HasDistinctNames (leaf l) = Unit {0}
  HasDistinctNames (option x) = HasDistinctNames x
  HasDistinctNames (list x) = HasDistinctNames x
  HasDistinctNames (mapping x y) = HasDistinctNames x × HasDistinctNames y
  HasDistinctNames (array x) = HasDistinctNames x
  HasDistinctNames (tuple xs) = HaveDistinctNames xs
  HasDistinctNames (structure fs) = AreNamed fs
  HasDistinctNames (choice fs) = NamesDiffer fs × AreNamed fs

  -- The same of each of the types.
  pub HaveDistinctNames : Layouts → Type 0
  HaveDistinctNames no_layouts = Unit {0}
  HaveDistinctNames (then_layout x xs) = HasDistinctNames x × HaveDistinctNames xs

  -- The same of the content of each field or variant, and its name isn't empty.
  pub AreNamed : Fields → Type 0
  AreNamed no_fields = Unit {0}
  AreNamed (then_field n x fs) = (0 < length n) × HasDistinctNames x × AreNamed fs

-- What may follow a value: blanks alone, or nothing, or one of the signs `]`, `)`, `,`, `}`, `=` and `>` after blanks, or `;`.
abbrev pub FollowsValue : List ℕ → Type 0
FollowsValue text = GoesOnBy follows_type text

-- r is a value of P, and what is left of the text is `after`. Or an allocation failed.
abbrev pub ReadsAs : {V : Type 0} → (V → Type 0) → Result V Stop → List ℕ → List ℕ → Type 0
ReadsAs P r left after = MatchResult r (λ v. P v × (left ≡ after)) (λ stop. stop ≡ Memory)

-- Each prefix of the text that denotes a tree of R is read as that tree if what follows it may follow a value. Just that prefix is taken,
-- or an allocation failed.
abbrev pub Accepts : (Tree → Type 0) → Speller → List ℕ → Result Value Stop → List ℕ → Type 0
Accepts R S text r left = (t : Tree) (after : List ℕ) → R t → TakesPhrase (S t) text after → FollowsValue after → ReadsAs (IsTree t) r left after

-- The answer r of a call that reads from the start of the text, and leaves `left`. What it reads is of R, and the text before `left`
-- denotes it. N says that names tell values apart. If it holds, each prefix that denotes a tree of R is read as that tree, and just that
-- prefix is taken. This holds if what follows the prefix may follow a value and no allocation fails.
pub record ReadsText {T V : Type 0} (see : V → T) (N : Type 0) (R : T → Type 0) (S : T → List ℕ → Type 0) (text : List ℕ) (r : Result V Stop) (left : List ℕ) : Type 0 where
  pub value : IfOk r (λ v. R (see v))
  pub spelled : IfOk r (λ v. TakesPhrase (S (see v)) text left)
  pub accepted : N → (t : T) (after : List ℕ) → R t → TakesPhrase (S t) text after → FollowsValue after → ReadsAs (λ v. t ≡ see v) r left after

-- A call that reads a value.
abbrev pub ReadsTree : Type 0 → (Tree → Type 0) → Speller → List ℕ → Result Value Stop → List ℕ → Type 0
ReadsTree = ReadsText tree

-- A call that reads values of R up to a closing bracket.
abbrev pub ReadsItems : Type 0 → (Tree → Type 0) → Speller → ℕ → List ℕ → Result (Vec Value Global) Stop → List ℕ → Type 0
ReadsItems N R S closing = ReadsText (λ v. trees (map tree v.items)) N (Each R) (λ ts. AreClosed closing (phrases S ts))
