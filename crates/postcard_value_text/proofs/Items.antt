-- Reading the elements of a list or the entries of a map, up to the closing bracket.
use Rattle.std.proofs.Common.{◌≡◌, ◌≢◌, ℕ, ◌<◌, ◌^◌, true, false, List, [], ◌∷◌, map, length, refl, sym, ap, subst, ◌∙◌, true≢false, arith, ◌⊎◌, inl, inr}
use Rattle.std.specs.Prelude.{Result, Ok, Err}
use Rattle.std.specs.Char.{is_ascii_whitespace}
use Rattle.postcard_wire.specs.Tree.{Tree, Trees, NoTrees, count, trees}
use Rattle.postcard_wire.specs.Tree as nodes
use Rattle.postcard_ser.proofs.Elements.{elements_count}
use Rattle.postcard_schema_text.specs.Fronts.{follows_type, Starts}
use Rattle.postcard_schema_text.specs.FrontLemmas.{takes_split, sign_unblank, not_empty}
use Rattle.postcard_schema_text.specs.Phrases.{takes_two, takes_as}
use Rattle.postcard_schema_text.proofs.Heads.{starts_not_by}
use Rattle.postcard_value.specs.declared.value.Value.{Value}
use Rattle.postcard_value_text.specs.{Each, IsArray, IsMaybe, IsSeq, IsSign, TakesPhrase, Then, tree}
use Rattle.postcard_value_text.specs.declared.error.Stop.{Stop}
use Rattle.postcard_value_text.specs.Accepted.{FollowsValue, ReadsAs, ReadsText, ReadsTree}
use Rattle.postcard_value_text.specs.Spelled.{Phrase, Speller, Row, RowAfter, Unless, are_none, AreClosed, AreEnclosed, phrases, SpellsList, SpellsArray}
use Rattle.postcard_value_text.proofs.Fronts.{other_sign, sign_follows, takes_none, none_taken}
use Rattle.postcard_value_text.proofs.Openings.{begins_value}
use Rattle.postcard_value_text.proofs.Readers.{Took, Misses, after_phrase, prefixed, refused, took_sign, fails_with}

-- The trees of values in a row.
abbrev pub row : List Value → Trees
row vs = trees (map tree vs)

-- One value more before those that were read.
pub one_more : (r : Result (List Value) Stop) (l x : List ℕ) (v : Value) {ts more : Trees} {t : Tree} → ts ≡ nodes.Then t more → t ≡ tree v
    → ReadsAs (λ vs. more ≡ row vs) r l x → ReadsAs (λ vs. ts ≡ row vs) (prefixed (v ∷ []) r) l x
one_more (Ok vs) l x v {more = more} whole same h = (whole ∙ ap (λ s. nodes.Then s more) same ∙ ap (nodes.Then (tree v)) h.0, h.1)
one_more (Err e) l x v whole same h = h

-- ---- closing brackets

-- The sign closes a list or a map: `]` or `}`.
abbrev pub IsClosing : ℕ → Type 0
IsClosing sign = (sign ≡ 93) ⊎ (sign ≡ 125)

closing_as : (P : ℕ → Type 0) (closing : ℕ) → IsClosing closing → P 93 → P 125 → P closing
closing_as P closing (inl e) p q = subst P (sym e) p
closing_as P closing (inr e) p q = subst P (sym e) q

-- A closing bracket is no blank.
black_closing : (closing : ℕ) → IsClosing closing → is_ascii_whitespace closing ≡ false
black_closing closing is = closing_as (λ b. is_ascii_whitespace b ≡ false) closing is refl refl

-- A closing bracket is no comma.
no_comma : (closing : ℕ) → IsClosing closing → closing ≢ 44
no_comma closing is = closing_as (λ b. b ≢ 44) closing is (λ e. omega (arith, e)) (λ e. omega (arith, e))

-- No value begins with a closing bracket.
no_value : (closing : ℕ) → IsClosing closing → begins_value closing ≡ false
no_value closing is = closing_as (λ b. begins_value b ≡ false) closing is refl refl

-- A closing bracket may follow a value.
closing_passes : (closing : ℕ) → IsClosing closing → follows_type closing ≡ true
closing_passes closing is = closing_as (λ b. follows_type b ≡ true) closing is refl refl

-- ---- phrases up to the closing bracket

-- Where no phrase is left, the bracket is next.
none_closed : (closing : ℕ) (a r : List ℕ) → TakesPhrase (AreClosed closing []) a r → TakesPhrase (IsSign closing) a r
none_closed closing a r h =
    let one = takes_split (Row []) (Then (Unless true (IsMaybe 44)) (IsSign closing)) a r h in
    let two = takes_split (Unless true (IsMaybe 44)) (IsSign closing) one.0 r one.2 in
    subst (λ t. TakesPhrase (IsSign closing) t r) (sym (none_taken a one.0 one.1 ∙ none_taken one.0 two.0 two.1)) two.2

-- The bracket alone, after one phrase, and after a phrase, a `,` and others.
closed_none : (closing : ℕ) (a r : List ℕ) → TakesPhrase (IsSign closing) a r → TakesPhrase (AreClosed closing []) a r
closed_none closing a r close =
    takes_two (Row []) (Then (Unless true (IsMaybe 44)) (IsSign closing)) a a r (takes_none a) (takes_two (Unless true (IsMaybe 44)) (IsSign closing) a a r (takes_none a) close)

-- A row of one phrase is that phrase.
row_one : (P : Phrase) (a m : List ℕ) → TakesPhrase P a m → TakesPhrase (Row (P ∷ [])) a m
row_one P a m one = takes_two P (RowAfter []) a m m one (takes_none m)

closed_one : (closing : ℕ) (P : Phrase) (a m r : List ℕ) → TakesPhrase P a m → TakesPhrase (IsSign closing) m r → TakesPhrase (AreClosed closing (P ∷ [])) a r
closed_one closing P a m r one close =
    takes_two (Row (P ∷ [])) (Then (Unless false (IsMaybe 44)) (IsSign closing)) a m r (row_one P a m one) (takes_two (Unless false (IsMaybe 44)) (IsSign closing) m m r ([], inl refl, refl) close)

closed_more : (closing : ℕ) (P : Phrase) (Ps : List Phrase) (a m n r : List ℕ) → TakesPhrase P a m → TakesPhrase (IsSign 44) m n → TakesPhrase (AreClosed closing Ps) n r
    → TakesPhrase (AreClosed closing (P ∷ Ps)) a r
closed_more closing P [] a m n r one comma left =
    takes_two (Row (P ∷ [])) (Then (Unless false (IsMaybe 44)) (IsSign closing)) a m r (row_one P a m one)
    (takes_two (Unless false (IsMaybe 44)) (IsSign closing) m n r (takes_as (IsSign 44) (IsMaybe 44) m n (λ t k. inr k) comma) (none_closed closing n r left))
closed_more closing P (Q ∷ Qs) a m n r one comma left =
    let k = takes_split (Row (Q ∷ Qs)) (Then (Unless false (IsMaybe 44)) (IsSign closing)) n r left in
    takes_two (Row (P ∷ Q ∷ Qs)) (Then (Unless false (IsMaybe 44)) (IsSign closing)) a k.0 r
    (takes_two P (RowAfter (Q ∷ Qs)) a m k.0 one (takes_two (IsSign 44) (Then Q (RowAfter Qs)) m n k.0 comma k.1)) k.2

-- After a phrase come the bracket, or a `,` and what is left.
abbrev pub ItemNext : ℕ → List Phrase → List ℕ → List ℕ → Type 0
ItemNext closing Ps b r = ((are_none Ps ≡ true) × TakesPhrase (IsSign closing) b r) ⊎ ((c : List ℕ) × TakesPhrase (IsSign 44) b c × TakesPhrase (AreClosed closing Ps) c r)

maybe_next : (closing : ℕ) (b m r : List ℕ) → TakesPhrase (IsMaybe 44) b m → TakesPhrase (IsSign closing) m r → ItemNext closing [] b r
maybe_next closing b m r (front, inl none, whole) close = inl (refl, subst (λ t. TakesPhrase (IsSign closing) t r) (sym (none_taken b m (front, none, whole))) close)
maybe_next closing b m r (front, inr sign, whole) close = inr (m, (front, sign, whole), closed_none closing m r close)

item_next : (closing : ℕ) (P : Phrase) (Ps : List Phrase) (a r : List ℕ) → TakesPhrase (AreClosed closing (P ∷ Ps)) a r → (b : List ℕ) × TakesPhrase P a b × ItemNext closing Ps b r
item_next closing P [] a r h =
    let one = takes_split (Row (P ∷ [])) (Then (Unless false (IsMaybe 44)) (IsSign closing)) a r h in
    let two = takes_split P (RowAfter []) a one.0 one.1 in
    let three = takes_split (Unless false (IsMaybe 44)) (IsSign closing) one.0 r one.2 in
    (two.0, two.1, maybe_next closing two.0 three.0 r (subst (λ t. TakesPhrase (IsMaybe 44) t three.0) (sym (none_taken two.0 one.0 two.2)) three.1) three.2)
item_next closing P (Q ∷ Qs) a r h =
    let one = takes_split (Row (P ∷ Q ∷ Qs)) (Then (Unless false (IsMaybe 44)) (IsSign closing)) a r h in
    let two = takes_split P (RowAfter (Q ∷ Qs)) a one.0 one.1 in
    let three = takes_split (IsSign 44) (Then Q (RowAfter Qs)) two.0 one.0 two.2 in
    (two.0, two.1, inr (three.0, three.1, takes_two (Row (Q ∷ Qs)) (Then (Unless false (IsMaybe 44)) (IsSign closing)) three.0 one.0 r three.2 one.2))

next_follows : (closing : ℕ) (Ps : List Phrase) (b r : List ℕ) → IsClosing closing → ItemNext closing Ps b r → FollowsValue b
next_follows closing Ps b r is (inl (none, close)) = sign_follows closing b r (closing_passes closing is) close
next_follows closing Ps b r is (inr (c, comma, left)) = sign_follows 44 b c refl comma

-- ---- the next of the values that are left

-- No value of S begins with a closing bracket.
pub Opens : Speller → Type 0
Opens S = (t : Tree) (a r : List ℕ) → TakesPhrase (S t) a r → Starts begins_value a

-- A text of a value begins with one of the bytes that begin values.
pub opens : (S : Speller) → ((t : Tree) (a r : List ℕ) → TakesPhrase (S t) a r → Starts begins_value a) → Opens S
unfolding Opens
opens S f = f

-- The next tree, and what follows its text.
record ItemFront (closing : ℕ) (S : Speller) (R : Tree → Type 0) (ts : Trees) (a r : List ℕ) : Type 0 where
  first : Tree
  more : Trees
  rest : List ℕ
  whole : ts ≡ nodes.Then first more
  is : R first
  each : Each R more
  taken : TakesPhrase (S first) a rest
  next : ItemNext closing (phrases S more) rest r
  goes : FollowsValue rest

item_front : (closing : ℕ) (S : Speller) (R : Tree → Type 0) (ts : Trees) (a r : List ℕ) → IsClosing closing → Misses (IsSign closing) a → Each R ts
    → TakesPhrase (AreClosed closing (phrases S ts)) a r → ItemFront closing S R ts a r
item_front closing S R NoTrees a r is some each h = absurd (some r (none_closed closing a r h))
item_front closing S R (nodes.Then t more) a r is some each h =
    let k = item_next closing (S t) (phrases S more) a r h in
    record { first = t; more = more; rest = k.0; whole = refl; is = each.0; each = each.1; taken = k.1; next = k.2; goes = next_follows closing (phrases S more) k.0 r is k.2 }

no_phrases : (S : Speller) (ts : Trees) → are_none (phrases S ts) ≡ true → ts ≡ NoTrees
no_phrases S NoTrees e = refl
no_phrases S (nodes.Then t ts) e = absurd (true≢false (sym e))

-- What reads the values that are left, and the closing bracket.
abbrev pub ReadsRest : ℕ → Type 0 → (Tree → Type 0) → Speller → List ℕ → Result (List Value) Stop → List ℕ → Type 0
ReadsRest closing N R S = ReadsText row N (Each R) (λ ts. AreClosed closing (phrases S ts))

module _ (closing : ℕ) (N : Type 0) (R : Tree → Type 0) (S : Speller) (is : IsClosing closing) where
  black : is_ascii_whitespace closing ≡ false
  black = black_closing closing is

  -- The bracket is next: no value is left.
  pub items_none : {a b : List ℕ} → (N → Opens S) → Took N (IsSign closing) a b → ReadsRest closing N R S a (Ok []) b
  unfolding Opens
  items_none {a} {b} opens q = record { value = tt; spelled = closed_none closing a b q.taken; accepted = λ names ts x each h goes. by names ts x h }
    where
      by : N → (ts : Trees) (x : List ℕ) → TakesPhrase (AreClosed closing (phrases S ts)) a x → (ts ≡ NoTrees) × (b ≡ x)
      by names NoTrees x h = (refl, q.only names x (none_closed closing a x h))
      by names (nodes.Then t more) x h =
          let k = item_next closing (S t) (phrases S more) a x h in
          absurd (starts_not_by begins_value closing a b black (no_value closing is) (opens names t a k.0 k.1) q.taken)

  -- The text doesn't end before the bracket.
  pub items_cut : {a b : List ℕ} (e : Stop) → (N → Opens S) → a ≡ [] → ReadsRest closing N R S a (Err e) b
  unfolding Opens
  items_cut {a} e opens none = refused (λ names ts x each h goes. by names ts x (subst (λ y. TakesPhrase (AreClosed closing (phrases S ts)) y x) none h))
    where
      by : N → (ts : Trees) (x : List ℕ) → TakesPhrase (AreClosed closing (phrases S ts)) [] x → ⊥
      by names NoTrees x h = not_empty (sign_unblank closing [] x black (none_closed closing [] x h))
      by names (nodes.Then t more) x h =
          let k = item_next closing (S t) (phrases S more) [] x h in
          let starts = opens names t [] k.0 k.1 in
          not_empty starts.2

  module _ {a : List ℕ} (some : Misses (IsSign closing) a) where
    -- The next value is refused.
    pub item_refused : {b : List ℕ} {e : Stop} → ReadsTree N R S a (Err e) b → ReadsRest closing N R S a (Err e) b
    item_refused h = fails_with (λ names ts x each k goes.
        let f = item_front closing S R ts a x is some each k in
        h.accepted names f.first f.rest f.is f.taken f.goes)

    module _ {m : List ℕ} {v : Value} (one : ReadsTree N R S a (Ok v) m) where
      -- The value is read, and then a `,` is taken.
      pub item_comma : {c : List ℕ} → Took N (IsSign 44) m c → (r : Result (List Value) Stop) (b : List ℕ) → ReadsRest closing N R S c r b → ReadsRest closing N R S a (prefixed (v ∷ []) r) b
      item_comma {c} q r b h = by r h
        where
          tail : (r : Result (List Value) Stop) → ReadsRest closing N R S c r b → N → (ts : Trees) (x : List ℕ) → Each R ts
              → TakesPhrase (AreClosed closing (phrases S ts)) a x → FollowsValue x → ReadsAs (λ vs. ts ≡ row vs) (prefixed (v ∷ []) r) b x
          tail r h names ts x each k goes = after f.next
            where
              f : ItemFront closing S R ts a x
              f = item_front closing S R ts a x is some each k

              got : (f.first ≡ tree v) × (m ≡ f.rest)
              got = one.accepted names f.first f.rest f.is f.taken f.goes

              after : ItemNext closing (phrases S f.more) f.rest x → ReadsAs (λ vs. ts ≡ row vs) (prefixed (v ∷ []) r) b x
              after (inl (none, close)) = absurd (other_sign closing 44 f.rest x c black refl (no_comma closing is) close (subst (λ t. TakesPhrase (IsSign 44) t c) got.1 q.taken))
              after (inr (d, sign, left)) =
                  let at : c ≡ d = q.only names d (subst (λ t. TakesPhrase (IsSign 44) t d) (sym got.1) sign) in
                  one_more r b x v f.whole got.0 (h.accepted names f.more x f.each (subst (λ t. TakesPhrase (AreClosed closing (phrases S f.more)) t x) (sym at) left) goes)

          by : (r : Result (List Value) Stop) → ReadsRest closing N R S c r b → ReadsRest closing N R S a (prefixed (v ∷ []) r) b
          by (Ok vs) h = record {
            value = (one.value, h.value);
            spelled = closed_more closing (S (tree v)) (phrases S (row vs)) a m c b one.spelled q.taken h.spelled;
            accepted = tail (Ok vs) h;
          }
          by (Err e) h = record { value = tt; spelled = tt; accepted = tail (Err e) h }

      -- The value is read and no `,` is taken: it is the last, and the bracket is next.
      module _ (last : Misses (IsSign 44) m) where
        closes : N → (ts : Trees) (x : List ℕ) → Each R ts → TakesPhrase (AreClosed closing (phrases S ts)) a x → (ts ≡ row (v ∷ [])) × TakesPhrase (IsSign closing) m x
        closes names ts x each k = after f.next
          where
            f : ItemFront closing S R ts a x
            f = item_front closing S R ts a x is some each k

            got : (f.first ≡ tree v) × (m ≡ f.rest)
            got = one.accepted names f.first f.rest f.is f.taken f.goes

            after : ItemNext closing (phrases S f.more) f.rest x → (ts ≡ row (v ∷ [])) × TakesPhrase (IsSign closing) m x
            after (inl (none, close)) = (
              f.whole ∙ ap (λ s. nodes.Then s f.more) got.0 ∙ ap (nodes.Then (tree v)) (no_phrases S f.more none),
              subst (λ t. TakesPhrase (IsSign closing) t x) (sym got.1) close,
            )
            after (inr (d, sign, left)) = absurd (last d (subst (λ t. TakesPhrase (IsSign 44) t d) (sym got.1) sign))

        pub item_last : {b : List ℕ} → Took N (IsSign closing) m b → ReadsRest closing N R S a (Ok (v ∷ [])) b
        item_last {b} q = record {
          value = (one.value, tt);
          spelled = closed_one closing (S (tree v)) a m b one.spelled q.taken;
          accepted = λ names ts x each k goes. let got = closes names ts x each k in (got.0, q.only names x got.1);
        }

        pub item_unclosed : {b : List ℕ} (e : Stop) → Misses (IsSign closing) m → ReadsRest closing N R S a (Err e) b
        item_unclosed e none = refused (λ names ts x each k goes. let got = closes names ts x each k in none x got.1)

-- ---- lists and arrays

module _ {N : Type 0} {R : Tree → Type 0} (S : Speller) (opening closing : ℕ) (black : is_ascii_whitespace opening ≡ false) {a : List ℕ} where
  -- The closing bracket and what stands before it, after the opening one.
  enclosed : {m b : List ℕ} (r : Result (List Value) Stop) → TakesPhrase (IsSign opening) a m → ReadsRest closing N R S m r b → ReadsText row N (Each R) (λ ts. AreEnclosed opening closing (phrases S ts)) a r b
  enclosed r begun h = after_phrase row N (Each R) (λ ts. AreClosed closing (phrases S ts)) (IsSign opening) r (took_sign opening black begun) h

  pub list_unopened : {b : List ℕ} (e : Stop) → Misses (IsSign opening) a → ReadsTree N (IsSeq R) (SpellsList opening closing S) a (Err e) b
  list_unopened e none = refused (λ names t x (ts, is, low, each) k goes.
      let one = takes_split (IsSign opening) (AreClosed closing (phrases S ts)) a x (subst (λ u. TakesPhrase (SpellsList opening closing S u) a x) is k) in
      none one.0 one.1)

  pub list_refused : {m b : List ℕ} {e : Stop} → TakesPhrase (IsSign opening) a m → ReadsRest closing N R S m (Err e) b → ReadsTree N (IsSeq R) (SpellsList opening closing S) a (Err e) b
  list_refused {e = e} begun h = fails_with (λ names t x (ts, is, low, each) k goes.
      (enclosed (Err e) begun h).accepted names ts x each (subst (λ u. TakesPhrase (SpellsList opening closing S u) a x) is k) goes)

  pub list_read : {m b : List ℕ} {vs : List Value} (v : Value) → tree v ≡ nodes.Seq (row vs) → length vs < 2 ^ 64 → TakesPhrase (IsSign opening) a m → ReadsRest closing N R S m (Ok vs) b
      → ReadsTree N (IsSeq R) (SpellsList opening closing S) a (Ok v) b
  list_read {m} {b} {vs} v seen few begun h =
      let g = enclosed (Ok vs) begun h in
      record {
        value = (row vs, seen, omega (arith, few, elements_count tree vs), g.value);
        spelled = subst (λ t. TakesPhrase (SpellsList opening closing S t) a b) (sym seen) g.spelled;
        accepted = λ names t x (ts, is, low, each) k goes.
            let got = g.accepted names ts x each (subst (λ u. TakesPhrase (SpellsList opening closing S u) a x) is k) goes in
            (is ∙ ap nodes.Seq got.0 ∙ sym seen, got.1);
      }

module _ {N : Type 0} {R : Tree → Type 0} (S : Speller) (n : ℕ) {a : List ℕ} where
  pub array_unopened : {b : List ℕ} (e : Stop) → Misses (IsSign 91) a → ReadsTree N (IsArray n R) (SpellsArray S) a (Err e) b
  array_unopened e none = refused (λ names t x (ts, is, many, each) k goes.
      let one = takes_split (IsSign 91) (AreClosed 93 (phrases S ts)) a x (subst (λ u. TakesPhrase (SpellsArray S u) a x) is k) in
      none one.0 one.1)

  module _ {m : List ℕ} (begun : TakesPhrase (IsSign 91) a m) where
    pub array_refused : {b : List ℕ} {e : Stop} → ReadsRest 93 N R S m (Err e) b → ReadsTree N (IsArray n R) (SpellsArray S) a (Err e) b
    array_refused {e = e} h = fails_with (λ names t x (ts, is, many, each) k goes.
        (enclosed S 91 93 refl (Err e) begun h).accepted names ts x each (subst (λ u. TakesPhrase (SpellsArray S u) a x) is k) goes)

    module _ {b : List ℕ} {vs : List Value} (h : ReadsRest 93 N R S m (Ok vs) b) where
      pub array_read : (v : Value) → tree v ≡ nodes.Group (row vs) → length vs ≡ n → ReadsTree N (IsArray n R) (SpellsArray S) a (Ok v) b
      array_read v seen long =
          let g = enclosed S 91 93 refl (Ok vs) begun h in
          record {
            value = (row vs, seen, elements_count tree vs ∙ long, g.value);
            spelled = subst (λ t. TakesPhrase (SpellsArray S t) a b) (sym seen) g.spelled;
            accepted = λ names t x (ts, is, many, each) k goes.
                let got = g.accepted names ts x each (subst (λ u. TakesPhrase (SpellsArray S u) a x) is k) goes in
                (is ∙ ap nodes.Group got.0 ∙ sym seen, got.1);
          }

      -- Another number of elements is no array of n.
      pub array_uncounted : (e : Stop) → (length vs ≡ n → ⊥) → ReadsTree N (IsArray n R) (SpellsArray S) a (Err e) b
      array_uncounted e other = refused (λ names t x (ts, is, many, each) k goes.
          let got = (enclosed S 91 93 refl (Ok vs) begun h).accepted names ts x each (subst (λ u. TakesPhrase (SpellsArray S u) a x) is k) goes in
          other (sym (elements_count tree vs) ∙ ap count (sym got.0) ∙ many))
