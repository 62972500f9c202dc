-- Lemmas on values that are read one after another: elements, entries, and the parts of a group.
use Rattle.std.proofs.Common.{◌≡◌, ℕ, ◌+◌, ◌<◌, List, [], ◌∷◌, ◌++◌, length, get_or, drop, map, Ok, Err, Result, refl, sym, ◌∙◌, ap, ap₂, subst, arith, append_assoc, append-nil}
use Rattle.std.proofs.lemmas.List.{drop_more}
use Rattle.postcard_wire.specs.declared.error.Error.{Error}
use Rattle.postcard_wire.specs.Tree.{Tree, Trees, Seq, Group, NoTrees, Then, trees}
use Rattle.postcard_de_flavors.specs.Source.{Left, Laws}
use Rattle.postcard_shape.specs.Lists.{EachIs, ListIs, AreRead}
use Rattle.postcard_de.proofs.Lists.{prefixed}
use Rattle.postcard_de.proofs.Parts.{part_and_rest}
use Rattle.postcard_de_nodes.specs.Reads.{ReadsFrom}
use Rattle.postcard_de_nodes.specs.CompoundLemmas.{Compound, first_refused, second_refused, both_read}
use Rattle.postcard_de_nodes.specs.ReadLemmas.{refusal}
use Rattle.postcard_de_nodes.specs.TakeLemmas.{nothing_taken}
use Rattle.postcard_schema.specs.declared.schema.Named.{Named}
use Rattle.postcard_schema.specs.Meaning.{MessageType, contents, entry_of, no_types, reads, reads_all, then_type, type_of, types_of}
use Rattle.postcard_value.specs.{IsGroup, IsTree, Schema, Spells, SpellsAll, Value, memory, tree}

-- ---- the trees of a list

-- If each tree is that of its value, the trees are those of the list of values.
pub each_tree : {V : Type 0} (f : V → Tree) (ts : Trees) (vs : List V) → EachIs (λ t v. t ≡ f v) ts vs → ts ≡ trees (map f vs)
each_tree f NoTrees [] h = refl
each_tree f NoTrees (v ∷ vs) h = absurd h
each_tree f (Then t ts) [] h = absurd h
each_tree f (Then t ts) (v ∷ vs) h = ap₂ Then h.0 (each_tree f ts vs h.1)

-- The tree of a list of values is the list of their trees.
pub list_tree : {V : Type 0} (f : V → Tree) (t : Tree) (vs : List V) → ListIs (λ t v. t ≡ f v) t vs → t ≡ Seq (trees (map f vs))
list_tree f t vs h = h.1 ∙ ap Seq (each_tree f h.0 vs h.2)

-- ---- the types from the loop's place on

-- Reading the parts from i on is reading part i and then those after it.
pub part_next : (xs : List Schema) (i : ℕ) (x : Schema) → i < length xs → x ≡ get_or xs i x
    → types_of (drop i xs) ≡ then_type (type_of x) (types_of (drop (i + 1) xs))
part_next xs i x low is = ap types_of (drop_more xs i x low ∙ ap (λ y. y ∷ drop (i + 1) xs) (sym is))

-- Reading the fields from i on is reading field i and then those after it.
pub field_next : (xs : List (Named Schema)) (i : ℕ) (x : Named Schema) → i < length xs → x ≡ get_or xs i x
    → types_of (contents (drop i xs)) ≡ then_type (type_of x.content) (types_of (contents (drop (i + 1) xs)))
field_next xs i x low is = ap (λ ys. types_of (contents ys)) (drop_more xs i x low ∙ ap (λ y. y ∷ drop (i + 1) xs) (sym is))

-- ---- what a loop has read

-- Reading a whole row ends as reading its remaining parts does. If that succeeds, the values read before come first.
pub record GoingRow {S : Type 0} (left : S → Left) (able : S → ℕ → Type 0) (may_leave : S → S → Type 0) (start : S) (all : Trees
    → Type 0) (items : List Value) (now : S) (rest : Trees → Type 0) : Type 0 where
  pub ends : (r : Result (List Value) Error) (new : S) → ReadsFrom SpellsAll rest (EachIs IsTree) memory left able may_leave now r new
      → ReadsFrom SpellsAll all (EachIs IsTree) memory left able may_leave start (prefixed items r) new

-- The only row of the set has no trees.
abbrev pub IsOver : (Trees → Type 0) → Type 0
IsOver rest = rest NoTrees × ((ts : Trees) → rest ts → ts ≡ NoTrees)

-- A row of no elements is empty.
no_elements : (R : Tree → Type 0) (ts : Trees) → AreRead 0 R ts → ts ≡ NoTrees
no_elements R NoTrees a = refl
no_elements R (Then t ts) a = absurd (omega (arith, a.0))

-- No element is left to read.
pub elements_over : (R : Tree → Type 0) → IsOver (AreRead 0 R)
elements_over R = ((refl, tt), no_elements R)

module _ {S : Type 0} {left : S → Left} {able : S → ℕ → Type 0} {may_leave : S → S → Type 0} where
  -- The invariant of the loop holds before the first value is read.
  pub row_begins : {start : S} {all : Trees → Type 0} {items : List Value} → items ≡ [] → GoingRow left able may_leave start all items start all
  row_begins {start} {all} none = rw none (record { ends = ends })
    where
      ends : (r : Result (List Value) Error) (new : S) → ReadsFrom SpellsAll all (EachIs IsTree) memory left able may_leave start r new
          → ReadsFrom SpellsAll all (EachIs IsTree) memory left able may_leave start (prefixed [] r) new
      ends (Ok vs) new h = h
      ends (Err e) new h = h

module _ {S : Type 0} {left : S → Left} {able : S → ℕ → Type 0} {may_leave : S → S → Type 0} (laws : Laws left able may_leave) where
  -- The invariant holds after one more value is read.
  pub row_read : {R : Tree → Type 0} {start now mid : S} {all rest next : Trees → Type 0} {items : List Value} {v : Value}
      → Compound Then Spells R IsTree SpellsAll (λ (w : Value). next) SpellsAll rest →
      GoingRow left able may_leave start all items now rest → ReadsFrom Spells R IsTree memory left able may_leave now (Ok v) mid
      → GoingRow left able may_leave start all (items ++ v ∷ []) mid next
  row_read {start = start} {mid = mid} {all = all} {next = next} {items = items} {v = v} both so h = record { ends = ends }
    where
      ends : (r : Result (List Value) Error) (new : S) → ReadsFrom SpellsAll next (EachIs IsTree) memory left able may_leave mid r new
          → ReadsFrom SpellsAll all (EachIs IsTree) memory left able may_leave start (prefixed (items ++ v ∷ []) r) new
      ends (Ok vs) new k = rw (append_assoc items (v ∷ []) vs) (so.ends (Ok (v ∷ vs)) new (both_read laws both (λ t ts i j. (i, j)) h k))
      ends (Err e) new k = so.ends (Err e) new (second_refused laws both (λ x g. g) h k)

  -- The same of a call that appended the value.
  pub row_goes_on : {R : Tree → Type 0} {start now mid : S} {all rest next : Trees → Type 0} {items more : List Value}
      → Compound Then Spells R IsTree SpellsAll (λ (w : Value). next) SpellsAll rest →
      GoingRow left able may_leave start all items now rest → ((v : Value) ×
      (more ≡ items ++ v ∷ []) × ReadsFrom Spells R IsTree memory left able may_leave now (Ok v) mid) →
      GoingRow left able may_leave start all more mid next
  row_goes_on {start = start} {mid = mid} {all = all} {next = next} both so (v, is, h) =
      subst (λ (vs : List Value). GoingRow left able may_leave start all vs mid next) (sym is) (row_read both so h)

  -- If the next value is refused, reading all fails with its error.
  pub row_stops : {R : Tree → Type 0} {start now new : S} {all rest next : Trees → Type 0} {items : List Value} {e : Error}
      → Compound Then Spells R IsTree SpellsAll (λ (w : Value). next) SpellsAll rest →
      GoingRow left able may_leave start all items now rest → ReadsFrom Spells R IsTree memory left able may_leave now (refusal Value e) new →
      ReadsFrom SpellsAll all (EachIs IsTree) memory left able may_leave start (refusal (List Value) e) new
  row_stops {new = new} {e = e} both so h = so.ends (Err e) new (first_refused laws both (λ x g. g) h)

  -- If none is left, all are read.
  pub row_ends : {start now : S} {all rest : Trees → Type 0} {items : List Value} → IsOver rest
      → GoingRow left able may_leave start all items now rest →
      ReadsFrom SpellsAll all (EachIs IsTree) memory left able may_leave start (Ok items) now
  row_ends {now = now} over so = rw append-nil at (so.ends (Ok []) now (record {
    gives = record { thing = NoTrees; front = []; is_read = over.0; is_spelled = refl; has = tt; taken = nothing_taken now };
    accepts = λ ts p a b c. let e = over.1 ts a in (rw e tt, let k : SpellsAll NoTrees p = rw e at b in rw k (nothing_taken now));
    leaves = laws.itself now;
    named_error = tt;
  }))

module _ {S : Type 0} {left : S → Left} {able : S → ℕ → Type 0} {may_leave : S → S → Type 0} {P : Trees → Type 0} {old new : S} where
  -- Reading the parts of a group reads the group.
  pub group_read : {vs : List Value} (v : Value) → tree v ≡ Group (trees (map tree vs)) →
      ReadsFrom SpellsAll P (EachIs IsTree) memory left able may_leave old (Ok vs) new
      → ReadsFrom Spells (IsGroup P) IsTree memory left able may_leave old (Ok v) new
  group_read {vs = vs} v seen r = let g = r.gives in record {
    gives = record {
      thing = Group g.thing;
      front = g.front;
      is_read = (g.thing, refl, g.is_read);
      is_spelled = g.is_spelled;
      has = ap Group (each_tree tree g.thing vs g.has) ∙ sym seen;
      taken = g.taken;
    };
    accepts = λ t p a b c. let k = r.accepts a.0 p a.2 (rw a.1 at b) c in (a.1 ∙ (ap Group (each_tree tree a.0 vs k.0) ∙ sym seen), k.1);
    leaves = r.leaves;
    named_error = tt;
  }

  -- If its parts are refused, a group is refused.
  pub group_refused : {e : Error} → ReadsFrom SpellsAll P (EachIs IsTree) memory left able may_leave old (refusal (List Value) e) new
      → ReadsFrom Spells (IsGroup P) IsTree memory left able may_leave old (refusal Value e) new
  group_refused r = record {
    gives = tt;
    accepts = λ t p a b c. r.accepts a.0 p a.2 (rw a.1 at b) c;
    leaves = r.leaves;
    named_error = r.named_error;
  }

-- ---- an entry of a map

module _ {S : Type 0} {left : S → Left} {able : S → ℕ → Type 0} {may_leave : S → S
    → Type 0} (laws : Laws left able may_leave) (k v : MessageType) {start : S} {none : List Value}
    (begun : none ≡ []) where
  -- If the key is refused, the entry is.
  pub key_stops : {new : S} {e : Error} → ReadsFrom Spells (reads k) IsTree memory left able may_leave start (refusal Value e) new
      → ReadsFrom Spells (reads (entry_of k v)) IsTree memory left able may_leave start (refusal Value e) new
  key_stops h = group_refused (row_stops laws (part_and_rest (reads k) IsTree (reads_all (then_type v no_types))) (row_begins begun) h)

  module _ {mid : S} {one : List Value} (first : (w : Value) × (one ≡ none ++ w ∷ []) × ReadsFrom Spells
      (reads k) IsTree memory left able may_leave start (Ok w) mid) where
    key_read : GoingRow left able may_leave start (reads_all (then_type k (then_type v no_types))) one mid (reads_all (then_type v no_types))
    key_read = row_goes_on laws (part_and_rest (reads k) IsTree (reads_all (then_type v no_types))) (row_begins begun) first

    -- If the value after the key is refused, the entry is.
    pub value_stops : {new : S} {e : Error} → ReadsFrom Spells (reads v) IsTree memory left able may_leave mid (refusal Value e) new
        → ReadsFrom Spells (reads (entry_of k v)) IsTree memory left able may_leave start (refusal Value e) new
    value_stops h = group_refused (row_stops laws (part_and_rest (reads v) IsTree (reads_all no_types)) key_read h)

    -- If both are read, the entry is.
    pub entry_read : {new : S} {pair : List Value} (own : Value) → tree own ≡ Group (trees (map tree pair))
        → ((w : Value) × (pair ≡ one ++ w ∷ []) × ReadsFrom Spells (reads v) IsTree memory left able may_leave mid (Ok w) new)
        → ReadsFrom Spells (reads (entry_of k v)) IsTree memory left able may_leave start (Ok own) new
    entry_read own seen second = group_read own seen (row_ends laws (refl, λ ts e. e) (row_goes_on laws (part_and_rest (reads v) IsTree
        (reads_all no_types)) key_read second))
