-- Lemmas on walks that add lines: two walks one after the other, and a walk over all bytes.
use Rattle.std.proofs.Common.{◌≡◌, ℕ, ◌+◌, List, [], ◌∷◌, ◌++◌, Result, Ok, Err, refl, sym, ◌∙◌, ap, subst, arith, inl, inr, append_assoc, append-nil}
use Rattle.std.specs.Prelude.{◌≢◌, ◌-◌, min}
use Rattle.std.specs.Borrow.{Bor}
use Rattle.postcard_wire.specs.declared.error.Error.{Error}
use Rattle.postcard_wire.specs.declared.error.Error.TheVariants.{OutOfMemory}
use Rattle.postcard_wire.specs.Tree.{NoTrees, Then}
use Rattle.postcard_schema.specs.declared.schema.Schema.{Schema}
use Rattle.postcard_schema.specs.Meaning.{MessageType}
use Rattle.postcard_value.specs.Fronts.{HasNoFront, SpellsEach}
use Rattle.postcard_explain.specs.declared.line.Expected.{Expected}
use Rattle.postcard_explain.specs.declared.line.LineKind.TheVariants.{Refused}
use Rattle.postcard_explain.specs.declared.line.Line.{Line}
use Rattle.postcard_explain.specs.Explained.{bytes_of, Opens, Explains, ExplainsElements, ExplainsItem, ExplainsMore, ExplainsParts, ExplainsRow, IsAt, IsLast, IsMore, IsExplained, more_elements, of_entry, of_parts, of_row, of_value}
use Rattle.postcard_explain.specs.Parts.{PlainLabel, whole, at_element, Row, HasParts, entry_row, Item, value, entry, item_type}
use Rattle.postcard_explain.specs.RefusedLines.{IsRefusal, Refuses, RefusesElements, RefusesItem, RefusesMore, RefusesParts, RefusesRow, in_element, in_entry, in_parts, in_row, in_value}
use Rattle.postcard_explain.specs.Walking.{Adds, Stops, Walks, WalksValue}
use Rattle.postcard_explain.proofs.NoFront.{refused_none}
use Rattle.postcard_explain.proofs.Spelled.{bytes_join, opens_nothing, spelled}

-- ---- walks one after another

-- Lines added for a prefix, and then for a prefix of the bytes after it.
pub adds_both : (P Q R : List Line → Type 0) → ((a b : List Line) → P a → Q b → R (a ++ b)) → (old mid new : List Line) (bytes rest after : List ℕ)
    → Adds P old bytes mid rest → Adds Q mid rest new after → Adds R old bytes new after
adds_both P Q R joins old mid new bytes rest after (a, p, is, e) (b, q, was, f) = (
  a ++ b,
  joins a b p q,
  was ∙ ap (λ l. l ++ b) is ∙ append_assoc old a b,
  e ∙ ap (λ r. bytes_of a ++ r) f ∙ sym (append_assoc (bytes_of a) (bytes_of b) after) ∙ ap (λ r. r ++ after) (sym (bytes_join a b)),
)

-- A walk that stops adds its lines after those that were added before.
pub stops_on : (P T S : List Line → Type 0) → ((a b : List Line) → P a → T b → S (a ++ b)) → (old mid new : List Line) (bytes rest : List ℕ) (e : Error)
    → Adds P old bytes mid rest → Stops T mid rest new e → Stops S old bytes new e
stops_on P T S joins old mid new bytes rest e a s = (s.0, λ other. adds_both P T S joins old mid new bytes rest [] a (s.1 other))

-- A walk adds its lines after those that were added before.
pub walks_on : (P Q R T S : List Line → Type 0) → ((a b : List Line) → P a → Q b → R (a ++ b)) → ((a b : List Line) → P a → T b → S (a ++ b))
    → (old mid new : List Line) (bytes rest : List ℕ) (r : Result (Bor (List ℕ)) Error) → Adds P old bytes mid rest → Walks Q T mid rest new r → Walks R S old bytes new r
walks_on P Q R T S joins stops old mid new bytes rest (Ok v) a w = adds_both P Q R joins old mid new bytes rest v.now a w
walks_on P Q R T S joins stops old mid new bytes rest (Err e) a w = stops_on P T S stops old mid new bytes rest e a w

-- A walk that adds lines of some kinds adds lines of others.
pub walks_as : (P Q T S : List Line → Type 0) → ((a : List Line) → P a → Q a) → ((a : List Line) → T a → S a) → (old new : List Line) (bytes : List ℕ)
    (r : Result (Bor (List ℕ)) Error) → Walks P T old bytes new r → Walks Q S old bytes new r
walks_as P Q T S f g old new bytes (Ok v) (a, p, is, e) = (a, f a p, is, e)
walks_as P Q T S f g old new bytes (Err e) (known, w) = (known, λ other. let k = w other in (k.0, g k.0 k.1, k.2, k.3))

-- A walk that stops at once adds the line of a part that can't be read.
pub refused_as : (most depth : ℕ) (label : PlainLabel) (s : Schema) (expected : Expected) (error : Error) (old new : List Line) (bytes : List ℕ)
    (r : Result (Bor (List ℕ)) Error)
    → ((line : Line) → IsAt depth label line → line.kind ≡ Refused expected → line.bytes.now ≡ bytes → error ≢ OutOfMemory → Refuses most depth label s (line ∷ []))
    → Walks (λ ls. ⊥) (IsRefusal depth label expected bytes error) old bytes new r → WalksValue most depth label s old bytes new r
refused_as most depth label s expected error old new bytes r f w =
    walks_as (λ ls. ⊥) (Explains most depth label s) (IsRefusal depth label expected bytes error) (Refuses most depth label s) (λ a q. absurd q)
    (λ a q. subst (Refuses most depth label s) (sym q.4) (f q.0 q.1 q.2 q.3 q.5)) old new bytes r w

-- A line is added for a prefix.
pub pushed : (P : List Line → Type 0) (line : Line) (old new : List Line) (bytes front rest : List ℕ) → P (line ∷ []) → new ≡ old ++ line ∷ []
    → line.bytes.now ≡ front → bytes ≡ front ++ rest → Adds P old bytes new rest
pushed P line old new bytes front rest p is seen e =
    (line ∷ [], p, is, e ∙ ap (λ q. q ++ rest) (sym seen ∙ sym (append-nil line.bytes.now)))

-- Lines are added, and a walk goes on after them.
goes_on : (Q R T S : List Line → Type 0) (head old mid new : List Line) (bytes rest : List ℕ) (r : Result (Bor (List ℕ)) Error)
    → ((b : List Line) → Q b → R (head ++ b)) → ((b : List Line) → T b → S (head ++ b)) → Adds (λ ls. ls ≡ head) old bytes mid rest → Walks Q T mid rest new r
    → Walks R S old bytes new r
goes_on Q R T S head old mid new bytes rest r joins stops a w =
    walks_on (λ ls. ls ≡ head) Q R T S (λ a b p q. subst (λ ls. R (ls ++ b)) (sym p) (joins b q)) (λ a b p q. subst (λ ls. S (ls ++ b)) (sym p) (stops b q))
    old mid new bytes rest r a w

-- A line of a value is added for a prefix, and a walk goes on after it.
pub pushed_on : (most depth : ℕ) (label : PlainLabel) (s : Schema) (Q T : List Line → Type 0) (line : Line) (old mid new : List Line) (bytes front rest : List ℕ)
    (r : Result (Bor (List ℕ)) Error) → ((b : List Line) → Q b → Explains most depth label s (line ∷ b)) → ((b : List Line) → T b → Refuses most depth label s (line ∷ b))
    → mid ≡ old ++ line ∷ [] → line.bytes.now ≡ front → bytes ≡ front ++ rest → Walks Q T mid rest new r → WalksValue most depth label s old bytes new r
pushed_on most depth label s Q T line old mid new bytes front rest r joins stops is shown e w =
    goes_on Q (Explains most depth label s) T (Refuses most depth label s) (line ∷ []) old mid new bytes rest r joins stops
    (pushed (λ ls. ls ≡ line ∷ []) line old mid bytes front rest refl is shown e) w

-- What opens parts is added, and a walk goes on after it.
pub opened_on : (Q R T S : List Line → Type 0) (depth inner : ℕ) (label : PlainLabel) (head old mid new : List Line) (bytes : List ℕ) (r : Result (Bor (List ℕ)) Error)
    → Opens depth label inner head → ((b : List Line) → Q b → R (head ++ b)) → ((b : List Line) → T b → S (head ++ b)) → mid ≡ old ++ head → Walks Q T mid bytes new r
    → Walks R S old bytes new r
opened_on Q R T S depth inner label head old mid new bytes r o joins stops is w =
    goes_on Q R T S head old mid new bytes bytes r joins stops (head, refl, is, ap (λ p. p ++ bytes) (sym (opens_nothing depth label inner head o))) w

pub row_on : (most depth inner : ℕ) (label : PlainLabel) (row : Row) (head old mid new : List Line) (bytes : List ℕ) (r : Result (Bor (List ℕ)) Error)
    → Opens depth label inner head → mid ≡ old ++ head → Walks (ExplainsParts most inner row) (RefusesParts most inner row) mid bytes new r
    → Walks (ExplainsRow most depth label row) (RefusesRow most depth label row) old bytes new r
row_on most depth inner label row head old mid new bytes r o is w =
    opened_on (ExplainsParts most inner row) (ExplainsRow most depth label row) (RefusesParts most inner row) (RefusesRow most depth label row) depth inner label head
    old mid new bytes r o (λ b q. of_row depth label row inner head b o q) (λ b q. in_row depth label row inner head b o q) is w

-- ---- what has parts, and items

-- The lines of the parts of a tuple or a struct are those of the value.
pub row_as : (most depth : ℕ) (label : PlainLabel) (s : Schema) (row : Row) → HasParts s row → (old new : List Line) (bytes : List ℕ)
    (r : Result (Bor (List ℕ)) Error) → Walks (ExplainsRow most depth label row) (RefusesRow most depth label row) old bytes new r
    → WalksValue most depth label s old bytes new r
row_as most depth label s row has old new bytes r w =
    walks_as (ExplainsRow most depth label row) (Explains most depth label s) (RefusesRow most depth label row) (Refuses most depth label s)
    (λ a q. of_parts depth label s row a has q) (λ a q. in_parts depth label s row a has q) old new bytes r w

-- The lines of a value are those of an item, and so are those of the parts of an entry.
pub value_as : (most depth : ℕ) (label : PlainLabel) (s : Schema) (old new : List Line) (bytes : List ℕ) (r : Result (Bor (List ℕ)) Error)
    → WalksValue most depth label s old bytes new r
    → Walks (ExplainsItem most depth label (value s)) (RefusesItem most depth label (value s)) old bytes new r
value_as most depth label s old new bytes r w =
    walks_as (Explains most depth label s) (ExplainsItem most depth label (value s)) (Refuses most depth label s) (RefusesItem most depth label (value s))
    (λ a q. of_value depth label s a q) (λ a q. in_value depth label s a q) old new bytes r w

pub entry_as : (most depth : ℕ) (label : PlainLabel) (k v : Schema) (old new : List Line) (bytes : List ℕ) (r : Result (Bor (List ℕ)) Error)
    → Walks (ExplainsRow most depth label (entry_row k v)) (RefusesRow most depth label (entry_row k v)) old bytes new r
    → Walks (ExplainsItem most depth label (entry k v)) (RefusesItem most depth label (entry k v)) old bytes new r
entry_as most depth label k v old new bytes r w =
    walks_as (ExplainsRow most depth label (entry_row k v)) (ExplainsItem most depth label (entry k v)) (RefusesRow most depth label (entry_row k v))
    (RefusesItem most depth label (entry k v)) (λ a q. of_entry depth label k v a q) (λ a q. in_entry depth label k v a q) old new bytes r w

-- ---- items after those with lines of their own

-- The line for items, or none for none, has their bytes.
none_spelled : (t : MessageType) (p : List ℕ) → SpellsEach t 0 p → p ≡ []
none_spelled t p (NoTrees, are, e) = e
none_spelled t p (Then x ts, are, s) = absurd (omega (arith, are.0))

-- The one line of several items has the bytes of all of them.
pub more_bytes : (depth : ℕ) (label : PlainLabel) (t : MessageType) (n : ℕ) (done : List ℕ) (lines : List Line) → SpellsEach t n done
    → IsMore depth label n done lines → bytes_of lines ≡ done
more_bytes depth label t n done lines s (inl (none, is)) = rw is (sym (none_spelled t done (rw none at s)))
more_bytes depth label t n done lines s (inr (line, some, at, kind, shown, is)) = rw is (append-nil line.bytes.now ∙ shown)

pub more_explained : (depth : ℕ) (label : PlainLabel) (item : Item) (n : ℕ) (done : List ℕ) (lines : List Line) → SpellsEach (item_type item) n done
    → IsMore depth label n done lines → ExplainsMore depth label item n lines
more_explained depth label item n done lines spells h =
    let same : bytes_of lines ≡ done = more_bytes depth label (item_type item) n done lines spells h in
    (rw same h, rw same spells)

-- The items from number `most` on, after those before.
pub elements_more : (most depth : ℕ) (item : Item) (i n : ℕ) (a b : List Line) → i ≡ min n most → ExplainsElements most depth item i a
    → ExplainsMore depth (at_element most) item (n - most) b → ExplainsElements most depth item n (a ++ b)
elements_more most depth item i n a b end h (inl (none, is), each) =
    let all : i ≡ n = omega arith in
    rw (is, append-nil a) (subst (λ k. ExplainsElements most depth item k a) all h)
elements_more most depth item i n a b end h (inr (line, some, at, kind, shown, is), each) =
    let full : i ≡ most = omega arith in
    let all : i + (n - most) ≡ n = omega arith in
    let at_own : IsAt depth (at_element i) line = subst (λ k. IsAt depth (at_element k) line) (sym full) at in
    rw is (subst (λ k. ExplainsElements most depth item k (a ++ line ∷ [])) all
    (more_elements depth item i (n - most) a line full some h at_own kind (rw (is, append-nil line.bytes.now) at each)))

pub refuses_more : (most depth : ℕ) (item : Item) (i n : ℕ) (a b : List Line) → i ≡ min n most → ExplainsElements most depth item i a
    → RefusesMore most depth item n b → RefusesElements most depth item n (a ++ b)
refuses_more most depth item i n a b end h (j, head, more, from, low, m, r, is) =
    let here : i ≡ min j most = omega arith in
    rw (is, ← append_assoc a head more) (in_element depth item n j (a ++ head) more low (elements_more most depth item i j a head here h m) r)

-- ---- all lines

-- The lines of a value at the prefix, and then those of what is left, explain the bytes.
pub all_explained : (most : ℕ) (s : Schema) (bytes rest : List ℕ) (old mid lines last : List Line) → old ≡ [] → Adds (Explains most 0 whole s) old bytes mid rest
    → IsLast last → lines ≡ mid ++ last → bytes_of last ≡ rest → IsExplained most s bytes lines
all_explained most s bytes rest old mid lines last none (front, h, is, e) end all shown = record {
  front = front;
  rest = last;
  are = all ∙ ap (λ l. l ++ last) (is ∙ ap (λ l. l ++ front) none);
  explained = h;
  read = spelled most 0 whole s front h;
  joins = e ∙ ap (λ r. bytes_of front ++ r) (sym shown);
  last = end;
}

-- The bytes of lines that explain bytes are these bytes.
pub all_bytes : (most : ℕ) (s : Schema) (bytes : List ℕ) (lines : List Line) → IsExplained most s bytes lines → bytes_of lines ≡ bytes
all_bytes most s bytes lines h = ap bytes_of h.are ∙ bytes_join h.front h.rest ∙ sym h.joins

-- The lines of a walk that stopped explain all of the bytes, which begin with no value.
pub all_refused : (most : ℕ) (s : Schema) (bytes : List ℕ) (old lines : List Line) (e : Error) → old ≡ [] → Stops (Refuses most 0 whole s) old bytes lines e
    → e ≢ OutOfMemory → (bytes_of lines ≡ bytes) × Refuses most 0 whole s lines × HasNoFront s bytes
all_refused most s bytes old lines e none stops other =
    let a = stops.1 other in
    let is : lines ≡ a.0 = a.2 ∙ ap (λ l. l ++ a.0) none in
    let same : bytes ≡ bytes_of a.0 = a.3 ∙ append-nil (bytes_of a.0) in
    rw (is, same) (refl, a.1, refused_none most 0 whole s a.0 a.1)
