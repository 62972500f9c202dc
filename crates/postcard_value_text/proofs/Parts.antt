-- Reading parts in a row: those of a tuple, or the fields of a struct.
use Rattle.std.proofs.Common.{◌≡◌, ℕ, ◌+◌, ◌<◌, Bool, true, false, List, [], ◌∷◌, ◌++◌, length, drop, get_or, refl, sym, ap, subst, ◌∙◌, arith}
use Rattle.std.specs.Prelude.{Result, Ok, Err}
use Rattle.std.specs.Bool.{◌==◌}
use Rattle.std.proofs.lemmas.Bool.Decides.{nat_tests}
use Rattle.std.proofs.lemmas.Grind.{common_steps}
use Rattle.std.proofs.lemmas.List.{drop_more}
use Rattle.postcard_wire.specs.Tree.{Tree, Trees, NoTrees}
use Rattle.postcard_wire.specs.Tree as nodes
use Rattle.postcard_wire.specs.Reading.{IsEnd, IsThen}
use Rattle.postcard_schema_text.specs.FrontLemmas.{takes_split}
use Rattle.postcard_schema_text.specs.Phrases.{takes_two}
use Rattle.postcard_value.specs.declared.value.Value.{Value}
use Rattle.postcard_value_text.specs.{IsSign, TakesPhrase, Then, tree}
use Rattle.postcard_value_text.specs.declared.error.Stop.{Stop}
use Rattle.postcard_value_text.specs.Accepted.{FollowsValue, ReadsAs, ReadsText, ReadsTree}
use Rattle.postcard_value_text.specs.Spelled.{Phrase, Speller, Row, RowAfter, Unless}
use Rattle.postcard_value_text.proofs.Fronts.{sign_follows, takes_none, none_taken}
use Rattle.postcard_value_text.proofs.Items.{one_more, row}
use Rattle.postcard_value_text.proofs.Readers.{Took, Misses, prefixed, refused, fails_with}

-- ---- parts in a row

-- One tree of each set, in order.
abbrev pub AllAre : {A : Type 0} → (A → Tree → Type 0) → List A → Trees → Type 0
AllAre R [] ts = IsEnd ts
AllAre R (x ∷ xs) ts = IsThen (R x) (AllAre R xs) ts

-- The phrases of trees in a row. For each tree its own relation says which texts denote it.
abbrev pub phrases_by : {A : Type 0} → (A → Speller) → List A → Trees → List Phrase
phrases_by S [] NoTrees = []
phrases_by S (x ∷ xs) (nodes.Then t ts) = S x t ∷ phrases_by S xs ts
phrases_by S xs ts = (λ text. ⊥) ∷ []

-- A row from its first phrase on, or after a phrase of it.
abbrev pub RowFrom : Bool → List Phrase → Phrase
RowFrom true Ps = Row Ps
RowFrom false Ps = RowAfter Ps

row_taken : (first : Bool) (P : Phrase) (Ps : List Phrase) (a m n b : List ℕ) → TakesPhrase (Unless first (IsSign 44)) a m → TakesPhrase P m n → TakesPhrase (RowAfter Ps) n b
    → TakesPhrase (RowFrom first (P ∷ Ps)) a b
row_taken true P Ps a m n b none one more = takes_two P (RowAfter Ps) a n b (subst (λ t. TakesPhrase P t n) (sym (none_taken a m none)) one) more
row_taken false P Ps a m n b sign one more = takes_two (IsSign 44) (Then P (RowAfter Ps)) a m b sign (takes_two P (RowAfter Ps) m n b one more)

row_split : (first : Bool) (P : Phrase) (Ps : List Phrase) (a b : List ℕ) → TakesPhrase (RowFrom first (P ∷ Ps)) a b
    → (m : List ℕ) × (n : List ℕ) × TakesPhrase (Unless first (IsSign 44)) a m × TakesPhrase P m n × TakesPhrase (RowAfter Ps) n b
row_split true P Ps a b h = let k = takes_split P (RowAfter Ps) a b h in (a, k.0, takes_none a, k.1, k.2)
row_split false P Ps a b h =
    let one = takes_split (IsSign 44) (Then P (RowAfter Ps)) a b h in
    let two = takes_split P (RowAfter Ps) one.0 b one.2 in
    (one.0, two.0, one.1, two.1, two.2)

-- What follows a part of a row may follow a value.
row_follows : (Ps : List Phrase) (a b : List ℕ) → FollowsValue b → TakesPhrase (RowAfter Ps) a b → FollowsValue a
row_follows [] a b goes h = subst FollowsValue (sym (none_taken a b h)) goes
row_follows (P ∷ Ps) a b goes h = let k = takes_split (IsSign 44) (Then P (RowAfter Ps)) a b h in sign_follows 44 a k.0 refl k.1

-- An empty row takes nothing.
row_ends : (first : Bool) (a : List ℕ) → TakesPhrase (RowFrom first []) a a
row_ends true a = takes_none a
row_ends false a = takes_none a

-- If an empty row is taken, nothing was taken.
row_ended : (first : Bool) (a b : List ℕ) → TakesPhrase (RowFrom first []) a b → a ≡ b
row_ended true a b h = none_taken a b h
row_ended false a b h = none_taken a b h

-- What reads the parts xs that are left, which are the first ones if `first` is true.
abbrev pub ReadsParts : {A : Type 0} → Type 0 → (A → Tree → Type 0) → (A → Speller) → Bool → List A → List ℕ → Result (List Value) Stop → List ℕ → Type 0
ReadsParts N R S first xs = ReadsText row N (AllAre R xs) (λ ts. RowFrom first (phrases_by S xs ts))

-- The first of the trees that are left, and the text of the others.
record PartFront {A : Type 0} (R : A → Tree → Type 0) (S : A → Speller) (first : Bool) (y : A) (ys : List A) (a : List ℕ) (ts : Trees) (x : List ℕ) : Type 0 where
  one : Tree
  more : Trees
  mid : List ℕ
  rest : List ℕ
  whole : ts ≡ nodes.Then one more
  is : R y one
  each : AllAre R ys more
  led : TakesPhrase (Unless first (IsSign 44)) a mid
  taken : TakesPhrase (S y one) mid rest
  left : TakesPhrase (RowAfter (phrases_by S ys more)) rest x
  goes : FollowsValue rest

part_front : {A : Type 0} (R : A → Tree → Type 0) (S : A → Speller) (first : Bool) (y : A) (ys : List A) (a : List ℕ) (ts : Trees) (x : List ℕ) → AllAre R (y ∷ ys) ts
    → TakesPhrase (RowFrom first (phrases_by S (y ∷ ys) ts)) a x → FollowsValue x → PartFront R S first y ys a ts x
part_front R S first y ys a ts x (t, us, e, is, each) h goes =
    let k = row_split first (S y t) (phrases_by S ys us) a x (subst (λ m. TakesPhrase (RowFrom first (phrases_by S (y ∷ ys) m)) a x) e h) in
    record { one = t; more = us; mid = k.0; rest = k.1; whole = e; is = is; each = each; led = k.2; taken = k.3; left = k.4; goes = row_follows (phrases_by S ys us) k.1 x goes k.4 }

module _ {A : Type 0} (N : Type 0) (R : A → Tree → Type 0) (S : A → Speller) where
  -- No part is left.
  pub parts_end : (first : Bool) (a : List ℕ) → ReadsParts N R S first [] a (Ok []) a
  parts_end first a = record {
    value = refl;
    spelled = row_ends first a;
    accepted = λ names ts x none k goes. (none, row_ended first a x (subst (λ us. TakesPhrase (RowFrom first (phrases_by S [] us)) a x) none k));
  }

  module _ (first : Bool) (y : A) (ys : List A) {a : List ℕ} where
    -- What should lead the part isn't there.
    pub part_not_led : {b : List ℕ} (e : Stop) → Misses (Unless first (IsSign 44)) a → ReadsParts N R S first (y ∷ ys) a (Err e) b
    part_not_led e none = refused (λ names ts x is k goes. let f = part_front R S first y ys a ts x is k goes in none f.mid f.led)

    module _ {m : List ℕ} (lead : Took N (Unless first (IsSign 44)) a m) where
      -- The part is refused.
      pub part_refused : {b : List ℕ} {e : Stop} → ReadsTree N (R y) (S y) m (Err e) b → ReadsParts N R S first (y ∷ ys) a (Err e) b
      part_refused h = fails_with (λ names ts x is k goes.
          let f = part_front R S first y ys a ts x is k goes in
          h.accepted names f.one f.rest f.is (subst (λ t. TakesPhrase (S y f.one) t f.rest) (sym (lead.only names f.mid f.led)) f.taken) f.goes)

      -- The part is read, and then the others are.
      pub part_read : {n : List ℕ} {v : Value} → ReadsTree N (R y) (S y) m (Ok v) n → (r : Result (List Value) Stop) (b : List ℕ)
          → ReadsParts N R S false ys n r b → ReadsParts N R S first (y ∷ ys) a (prefixed (v ∷ []) r) b
      part_read {n} {v} h r b g = by r g
        where
          tail : (r : Result (List Value) Stop) → ReadsParts N R S false ys n r b → N → (ts : Trees) (x : List ℕ) → AllAre R (y ∷ ys) ts
              → TakesPhrase (RowFrom first (phrases_by S (y ∷ ys) ts)) a x → FollowsValue x → ReadsAs (λ vs. ts ≡ row vs) (prefixed (v ∷ []) r) b x
          tail r g names ts x is k goes =
              let f = part_front R S first y ys a ts x is k goes in
              let got = h.accepted names f.one f.rest f.is (subst (λ t. TakesPhrase (S y f.one) t f.rest) (sym (lead.only names f.mid f.led)) f.taken) f.goes in
              one_more r b x v f.whole got.0 (g.accepted names f.more x f.each (subst (λ t. TakesPhrase (RowAfter (phrases_by S ys f.more)) t x) (sym got.1) f.left) goes)

          by : (r : Result (List Value) Stop) → ReadsParts N R S false ys n r b → ReadsParts N R S first (y ∷ ys) a (prefixed (v ∷ []) r) b
          by (Ok vs) g = record {
            value = (tree v, row vs, refl, h.value, g.value);
            spelled = row_taken first (S y (tree v)) (phrases_by S ys (row vs)) a m n b lead.taken h.spelled g.spelled;
            accepted = tail (Ok vs) g;
          }
          by (Err e) g = record { value = tt; spelled = tt; accepted = tail (Err e) g }

-- The list of values isn't empty once one is read.
pub not_none : (done more : List Value) (v : Value) → more ≡ done ++ v ∷ [] → (length more == 0) ≡ false
not_none done more v is = grind (arith, common_steps, nat_tests, is)

-- The parts that are left, from the next one on.
pub next_part : {A : Type 0} (xs : List A) (i : ℕ) (x : A) → i < length xs → x ≡ get_or xs i x → drop i xs ≡ x ∷ drop (i + 1) xs
next_part xs i x low is = drop_more xs i x low ∙ ap (λ y. y ∷ drop (i + 1) xs) (sym is)
