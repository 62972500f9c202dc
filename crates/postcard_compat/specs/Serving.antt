-- When a type reads what another one writes, as the same.
use Rattle.std.specs.Prelude.{◌≡◌, ℕ, List, ◌++◌}
use Rattle.postcard_wire.specs.Tree.{Tree, Trees}
use Rattle.postcard_wire.specs.Spelling.{Spells, SpellsAll}
use Rattle.postcard_schema.specs.Meaning.{MessageType, MessageTypes, reads, reads_all, reads_at, row_of}
use Rattle.postcard_compat.specs.Said.{Word, Saying, said, said_all, said_at}

-- For each tree of the old set there is a tree of the new one that says the same. Each accepted encoding of the old tree is one of that new
-- tree.
abbrev pub SetServes : (new : Tree → Type 0) → Saying → (old : Tree → Type 0) → Saying → Type 0
SetServes new says old old_says = (t : Tree) → old t → (s : Tree) × new s × (says s ≡ old_says t) × ((p : List ℕ) → Spells t p → Spells s p)

-- The same of rows.
abbrev pub RowServes : (new : Trees → Type 0) → (Trees → List Word) → (old : Trees → Type 0) → (Trees → List Word) → Type 0
RowServes new says old old_says = (ts : Trees) → old ts → (ss : Trees) × new ss × (says ss ≡ old_says ts) × ((p : List ℕ) → SpellsAll ts p → SpellsAll ss p)

-- Every message of the old type is one of the new type, where it says the same.
abbrev pub Serves : MessageType → MessageType → Type 0
Serves new old = SetServes (reads new) (said new) (reads old) (said old)

-- The new parts in a row serve the old parts in a row.
abbrev pub AllServe : MessageTypes → MessageTypes → Type 0
AllServe news olds = RowServes (reads_all news) (said_all news) (reads_all olds) (said_all olds)

-- The two types have the same messages, which say the same.
pub record SameMessages (one other : MessageType) : Type 0 where
  pub serves : Serves one other
  pub is_served : Serves other one

-- The same of rows.
pub record SameRows (ones others : List MessageType) : Type 0 where
  pub serve : AllServe (row_of ones) (row_of others)
  pub are_served : AllServe (row_of others) (row_of ones)

-- Each new variant serves the old variant at its index.
abbrev pub VariantsServe : MessageTypes → MessageTypes → Type 0
VariantsServe news olds = (i : ℕ) → SetServes (reads_at news i) (said_at news i) (reads_at olds i) (said_at olds i)

-- Every message of the old type begins with one of the new type, which says the beginning of what the old one says.
abbrev pub ServesFront : MessageType → MessageType → Type 0
ServesFront new old = (t : Tree) → reads old t → (s : Tree) × (more : List Word) × reads new s × (said old t ≡ said new s ++ more) × ((p : List ℕ) → Spells t p → (x y : List ℕ) × Spells s x × (p ≡ x ++ y))

-- The new parts in a row serve the first of the old parts in a row.
abbrev pub AllServeFront : MessageTypes → MessageTypes → Type 0
AllServeFront news olds = (ts : Trees) → reads_all olds ts → (ss : Trees) × (more : List Word) × reads_all news ss × (said_all olds ts ≡ said_all news ss ++ more) × ((p : List ℕ) → SpellsAll ts p → (x y : List ℕ) × SpellsAll ss x × (p ≡ x ++ y))
