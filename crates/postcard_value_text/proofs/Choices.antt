-- Reading options and variants: a word, and what stands after it.
use Rattle.std.proofs.Common.{◌≡◌, ◌≢◌, ℕ, Bool, zero, suc, ◌+◌, ◌<◌, ◌^◌, true, false, List, [], ◌∷◌, length, get_or, codes, string_bytes, refl, sym, ap, subst, ◌∙◌, true≢false, arith, inl, inr}
use Rattle.std.specs.Prelude.{Result, Ok, Err}
use Rattle.std.specs.Str.{IsTrimAsciiStart}
use borrow.Author.Count.{below_more}
use Rattle.std.proofs.lemmas.List.{get_or_default}
use Rattle.std.proofs.lemmas.Result.{IfOk-weaker}
use Rattle.postcard_wire.specs.Tree.{Tree, NoTrees}
use Rattle.postcard_wire.specs.Tree as nodes
use Rattle.postcard_schema.specs.Lemmas.{content_at}
use Rattle.postcard_schema_text.specs.FrontLemmas.{takes_split, same_first, sign_ends_word, word_unblank, WordTaken}
use Rattle.postcard_schema_text.specs.Phrases.{takes_two, word_more}
use Rattle.postcard_value.specs.declared.value.Value.{Value}
use Rattle.postcard_value_text.specs.{EndsWord, IsOption, IsSign, IsVariant, IsWord, Named, Schema, TakesPhrase, Then, contents, reads, reads_at}
use Rattle.postcard_value_text.specs.{tree, type_of, types_of}
use Rattle.postcard_value_text.specs.declared.error.Stop.{Stop}
use Rattle.postcard_value_text.specs.Accepted.{AreNamed, AreNotCalled, FollowsValue, HasDistinctNames, NamesDiffer, ReadsAs, ReadsText, ReadsTree}
use Rattle.postcard_value_text.specs.Layout.{Layout, tuple, structure, no_layouts, then_layout, fields_of, has_brackets, is_unit, layout_of}
use Rattle.postcard_value_text.specs.Spelled.{Speller, AreClosed, InParentheses, option_word, SpellsAt, SpellsChoice, SpellsContent, SpellsOption, SpellsTree, field_phrases, part_phrases}
use Rattle.postcard_value_text.proofs.Blanks.{one_word, word_trimmed}
use Rattle.postcard_value_text.proofs.Fronts.{goes_word, sign_follows, none_taken}
use Rattle.postcard_value_text.proofs.Groups.{named_at}
use Rattle.postcard_value_text.proofs.Readers.{Misses, after_phrase, before_phrase, missed_after, phrase_missed, read_more, refused, refused_before, took_sign}

-- ---- parentheses

module _ {N : Type 0} {R : Tree → Type 0} (S : Speller) {a : List ℕ} where
  pub unopened : {b : List ℕ} (e : Stop) → Misses (IsSign 40) a → ReadsTree N R (InParentheses S) a (Err e) b
  unopened e none = phrase_missed tree N R (λ t. Then (S t) (IsSign 41)) (IsSign 40) e (λ names. none)

  module _ {m : List ℕ} (begun : TakesPhrase (IsSign 40) a m) where
    inside : {b : List ℕ} (r : Result Value Stop) → ReadsTree N R (λ t. Then (S t) (IsSign 41)) m r b → ReadsTree N R (InParentheses S) a r b
    inside r h = after_phrase tree N R (λ t. Then (S t) (IsSign 41)) (IsSign 40) r (took_sign 40 refl begun) h

    pub inner_refused : {n b : List ℕ} {e : Stop} → ReadsTree N R S m (Err e) n → ReadsTree N R (InParentheses S) a (Err e) b
    inner_refused {n} {b} {e} h = inside (Err e) (refused_before tree N R S (λ t. IsSign 41) (λ t x y k. sign_follows 41 x y refl k) h)

    pub inner_unclosed : {n b : List ℕ} {v : Value} (e : Stop) → ReadsTree N R S m (Ok v) n → Misses (IsSign 41) n → ReadsTree N R (InParentheses S) a (Err e) b
    inner_unclosed e h none = inside (Err e) (missed_after tree N R S (λ t. IsSign 41) (λ t x y k. sign_follows 41 x y refl k) e h none)

    pub inner_read : {n b : List ℕ} {v : Value} → ReadsTree N R S m (Ok v) n → TakesPhrase (IsSign 41) n b → ReadsTree N R (InParentheses S) a (Ok v) b
    inner_read {n} {b} {v} h close = inside (Ok v) (before_phrase tree N R S (λ t. IsSign 41) (λ t x y k. sign_follows 41 x y refl k) h (took_sign 41 refl close))

-- ---- options

-- `None` and `Some` are not both next.
none_or_some : (a r q : List ℕ) → TakesPhrase (IsWord (codes "None")) a r → TakesPhrase (IsWord (codes "Some")) a q → ⊥
none_or_some a r q h k =
    let e : 78 ≡ 83 = same_first (sym (word_unblank 78 (111 ∷ 110 ∷ 101 ∷ []) a r h) ∙ word_unblank 83 (111 ∷ 109 ∷ 101 ∷ []) a q k) in
    omega (arith, e)

-- A word that ends there, and with which an option begins, is this one, and `m` is left after it.
abbrev pub OneOption : Bool → List ℕ → List ℕ → Type 0
OneOption some a m = (other : Bool) (x : List ℕ) → TakesPhrase (IsWord (option_word other)) a x → EndsWord x → (some ≡ other) × (m ≡ x)

-- The word that was taken after blanks is the only one there.
pub option_one : (some : Bool) (a b m : List ℕ) → IsTrimAsciiStart a b → TakesPhrase (IsWord (option_word some)) b m
    → ((x : List ℕ) → TakesPhrase (IsWord (option_word some)) b x → EndsWord x → m ≡ x) → OneOption some a m
option_one true a b m trim taken one true x h ends = (refl, one x (word_trimmed (codes "Some") a b x trim (omega arith) h) ends)
option_one true a b m trim taken one false x h ends = absurd (none_or_some b x m (word_trimmed (codes "None") a b x trim (omega arith) h) taken)
option_one false a b m trim taken one true x h ends = absurd (none_or_some b m x taken (word_trimmed (codes "Some") a b x trim (omega arith) h))
option_one false a b m trim taken one false x h ends = (refl, one x (word_trimmed (codes "None") a b x trim (omega arith) h) ends)

-- No option begins the text if neither word does after blanks.
pub option_none : (a b : List ℕ) → IsTrimAsciiStart a b → ((x : List ℕ) → TakesPhrase (IsWord (codes "Some")) b x → EndsWord x → ⊥)
    → ((x : List ℕ) → TakesPhrase (IsWord (codes "None")) b x → EndsWord x → ⊥)
    → (some : Bool) (x : List ℕ) → TakesPhrase (IsWord (option_word some)) a x → EndsWord x → ⊥
option_none a b trim one other true x h ends = one x (word_trimmed (codes "Some") a b x trim (omega arith) h) ends
option_none a b trim one other false x h ends = other x (word_trimmed (codes "None") a b x trim (omega arith) h) ends

-- What is left after the first word of an option.
abbrev OptionLeft : Speller → (Tree → Type 0) → Bool → Tree → List ℕ → List ℕ → Type 0
OptionLeft S R true t m x = (s : Tree) × (t ≡ nodes.Present s) × R s × TakesPhrase (InParentheses S s) m x
OptionLeft S R false t m x = (t ≡ nodes.Absent) × (m ≡ x)

option_front : (S : Speller) (R : Tree → Type 0) (t : Tree) (a x : List ℕ) → IsOption R t → TakesPhrase (SpellsOption S t) a x → FollowsValue x
    → (some : Bool) × (m : List ℕ) × TakesPhrase (IsWord (option_word some)) a m × EndsWord m × OptionLeft S R some t m x
option_front S R t a x (inl is) h goes = (false, x, subst (λ s. TakesPhrase (SpellsOption S s) a x) is h, goes_word x goes, (is, refl))
option_front S R t a x (inr (s, whole, is)) h goes =
    let k = takes_split (IsWord (codes "Some")) (InParentheses S s) a x (subst (λ u. TakesPhrase (SpellsOption S u) a x) whole h) in
    let sign = takes_split (IsSign 40) (Then (S s) (IsSign 41)) k.0 x k.2 in
    (true, k.0, k.1, sign_ends_word 40 k.0 sign.0 refl sign.1, (s, whole, is, k.2))

left_after : (S : Speller) (R : Tree → Type 0) {some : Bool} {a m : List ℕ} → OneOption some a m → (t : Tree) (x : List ℕ) → IsOption R t
    → TakesPhrase (SpellsOption S t) a x → FollowsValue x → OptionLeft S R some t m x
left_after S R {some} {a} {m} one t x is h goes =
    let f = option_front S R t a x is h goes in
    let same = one f.0 f.1 f.2 f.3 in
    subst (λ y. OptionLeft S R some t y x) (sym same.1) (subst (λ b. OptionLeft S R b t f.1 x) (sym same.0) f.4)

module _ {N : Type 0} {R : Tree → Type 0} (S : Speller) {a : List ℕ} where
  pub option_missed : {m : List ℕ} (e : Stop) → ((some : Bool) (x : List ℕ) → TakesPhrase (IsWord (option_word some)) a x → EndsWord x → ⊥)
      → ReadsTree N (IsOption R) (SpellsOption S) a (Err e) m
  option_missed e none = refused (λ names t x is h goes. let f = option_front S R t a x is h goes in none f.0 f.1 f.2 f.3)

  pub none_read : {m : List ℕ} (w : Value) → tree w ≡ nodes.Absent → TakesPhrase (IsWord (codes "None")) a m → OneOption false a m
      → ReadsTree N (IsOption R) (SpellsOption S) a (Ok w) m
  none_read {m} w seen taken one = record {
    value = inl seen;
    spelled = subst (λ t. TakesPhrase (SpellsOption S t) a m) (sym seen) taken;
    accepted = λ names t x is h goes. let k = left_after S R one t x is h goes in (k.0 ∙ sym seen, k.1);
  }

  pub some_read : {m c : List ℕ} (r : Result Value Stop) → TakesPhrase (IsWord (codes "Some")) a m → OneOption true a m
      → ReadsTree N R (InParentheses S) m r c → ReadsText (λ v. nodes.Present (tree v)) N (IsOption R) (SpellsOption S) a r c
  some_read {m} {c} r taken one h = record {
    value = IfOk-weaker r (λ v. R (tree v)) (λ v. IsOption R (nodes.Present (tree v))) (λ v k. inr (tree v, refl, k)) h.value;
    spelled = IfOk-weaker r (λ v. TakesPhrase (InParentheses S (tree v)) m c) (λ v. TakesPhrase (SpellsOption S (nodes.Present (tree v))) a c)
        (λ v k. takes_two (IsWord (codes "Some")) (InParentheses S (tree v)) a m c taken k) h.spelled;
    accepted = λ names t x is k goes.
        let f = left_after S R one t x is k goes in
        read_more r c x (λ v same. f.1 ∙ ap nodes.Present same) (h.accepted names f.0 x f.2 f.3 goes);
  }

-- ---- the content of a variant

-- The name of a variant doesn't go on with its content.
content_ends_word : (x : Layout) (t : Tree) (a r : List ℕ) → FollowsValue r → TakesPhrase (SpellsContent x (SpellsTree x) t) a r → EndsWord a
content_ends_word (tuple no_layouts) t a r goes (front, (is, none), whole) = subst EndsWord (sym (none_taken a r (front, none, whole))) (goes_word r goes)
content_ends_word (tuple (then_layout x xs)) (nodes.Group ts) a r goes h =
    let k = takes_split (IsSign 40) (AreClosed 41 (part_phrases (then_layout x xs) ts)) a r h in
    sign_ends_word 40 a k.0 refl k.1
content_ends_word (tuple (then_layout x xs)) t a r goes (front, none, whole) = absurd none
content_ends_word (structure fs) (nodes.Group ts) a r goes h =
    let k = takes_split (IsSign 123) (AreClosed 125 (field_phrases fs ts)) a r h in
    sign_ends_word 123 a k.0 refl k.1
content_ends_word (structure fs) t a r goes (front, none, whole) = absurd none
content_ends_word x t a r goes h =
    let k = takes_split (IsSign 40) (Then (SpellsTree x t) (IsSign 41)) a r h in
    sign_ends_word 40 a k.0 refl k.1

-- The three forms of a content: nothing, a text with brackets of its own, or a text in parentheses.
unit_is : (x : Layout) → is_unit x ≡ true → x ≡ tuple no_layouts
unit_is (tuple no_layouts) unit = refl
unit_is (tuple (then_layout x xs)) unit = absurd (true≢false (sym unit))
unit_is x unit = absurd (true≢false (sym unit))

own_brackets : (x : Layout) (S : Speller) → is_unit x ≡ false → has_brackets x ≡ true → SpellsContent x S ≡ S
own_brackets (tuple no_layouts) S full own = absurd (true≢false full)
own_brackets (tuple (then_layout x xs)) S full own = refl
own_brackets (structure fs) S full own = refl
own_brackets x S full own = absurd (true≢false (sym own))

in_parentheses : (x : Layout) (S : Speller) → has_brackets x ≡ false → SpellsContent x S ≡ InParentheses S
in_parentheses (tuple xs) S other = absurd (true≢false other)
in_parentheses (structure fs) S other = absurd (true≢false other)
in_parentheses x S other = refl

module _ {N : Type 0} {R : Tree → Type 0} (x : Layout) (S : Speller) {a : List ℕ} where
  pub unit_read : (w : Value) → tree w ≡ nodes.Group NoTrees → R (nodes.Group NoTrees) → is_unit x ≡ true → ReadsTree N R (SpellsContent x S) a (Ok w) a
  unit_read w seen is unit = rw (unit_is x unit) (record {
    value = subst R (sym seen) is;
    spelled = ([], (seen, refl), refl);
    accepted = λ names t y r (front, (nothing, none), whole) goes. (nothing ∙ sym seen, none_taken a y (front, none, whole));
  })

  pub brackets_read : {b : List ℕ} (r : Result Value Stop) → is_unit x ≡ false → has_brackets x ≡ true → ReadsTree N R S a r b
      → ReadsTree N R (SpellsContent x S) a r b
  brackets_read {b} r full own h = subst (λ Q. ReadsTree N R Q a r b) (sym (own_brackets x S full own)) h

  pub parentheses_read : {b : List ℕ} (r : Result Value Stop) → has_brackets x ≡ false → ReadsTree N R (InParentheses S) a r b
      → ReadsTree N R (SpellsContent x S) a r b
  parentheses_read {b} r other h = subst (λ Q. ReadsTree N R Q a r b) (sym (in_parentheses x S other)) h

-- ---- variants

-- The texts of the variant at an index are its name and then its content.
variant_at : (ns : List (Named Schema)) (i : ℕ) (n : Named Schema) → i < length ns → n ≡ get_or ns i n
    → SpellsAt (fields_of ns) i ≡ (λ t. Then (IsWord (string_bytes n.name)) (SpellsContent (layout_of n.content) (SpellsTree (layout_of n.content)) t))
variant_at [] i n low is = absurd (omega (arith, low))
variant_at (m ∷ ms) zero n low is = ap (λ z. λ t. Then (IsWord (string_bytes z.name)) (SpellsContent (layout_of z.content) (SpellsTree (layout_of z.content)) t)) (sym is)
variant_at (m ∷ ms) (suc i) n low is = variant_at ms i n (omega (arith, low)) is

-- The variant that the text denotes, at its index.
record VariantFront (ns : List (Named Schema)) (i : ℕ) (t : Tree) (a x : List ℕ) : Type 0 where
  variant : Named Schema
  low : i < length ns
  here : variant ≡ get_or ns i variant
  taken : TakesPhrase (Then (IsWord (string_bytes variant.name)) (SpellsContent (layout_of variant.content) (SpellsTree (layout_of variant.content)) t)) a x

variant_front : (ns : List (Named Schema)) (i : ℕ) (t : Tree) (a x : List ℕ) → TakesPhrase (SpellsAt (fields_of ns) i t) a x → VariantFront ns i t a x
variant_front [] i t a x (front, none, whole) = absurd none
variant_front (n ∷ ns) zero t a x h = record { variant = n; low = omega arith; here = refl; taken = h }
variant_front (n ∷ ns) (suc i) t a x h =
    let k = variant_front ns i t a x h in
    record { variant = k.variant; low = omega (arith, k.low); here = k.here; taken = k.taken }

not_called_at : (name : List ℕ) (ns : List (Named Schema)) (i : ℕ) (n : Named Schema) → AreNotCalled name (fields_of ns) → i < length ns → n ≡ get_or ns i n → string_bytes n.name ≡ name → ⊥
not_called_at name [] i n none low here is = absurd (omega (arith, low))
not_called_at name (m ∷ ms) zero n none low here is = none.0 (ap (λ z. string_bytes z.name) (sym here) ∙ is)
not_called_at name (m ∷ ms) (suc i) n none low here is = not_called_at name ms i n none.1 (omega (arith, low)) here is

-- Two variants at two places don't have one name.
one_before : (name : List ℕ) (ns : List (Named Schema)) (i j : ℕ) (n m : Named Schema) → NamesDiffer (fields_of ns) → i < j → j < length ns
    → n ≡ get_or ns i n → string_bytes n.name ≡ name → m ≡ get_or ns j m → string_bytes m.name ≡ name → ⊥
one_before name [] i j n m differ before low here is there like = absurd (omega (arith, low))
one_before name (u ∷ us) i zero n m differ before low here is there like = absurd (omega (arith, before))
one_before name (u ∷ us) zero (suc j) n m differ before low here is there like =
    let own : string_bytes u.name ≡ name = ap (λ z. string_bytes z.name) (sym here) ∙ is in
    not_called_at name us j m (subst (λ w. AreNotCalled w (fields_of us)) own differ.0) (omega (arith, low)) there like
one_before name (u ∷ us) (suc i) (suc j) n m differ before low here is there like = one_before name us i j n m differ.1 (omega (arith, before)) (omega (arith, low)) here is there like

-- The index k is the first of a variant with this name, or it is past the last if none has it.
pub record FirstCalled (ns : List (Named Schema)) (name : List ℕ) (k : ℕ) : Type 0 where
  pub found : k < length ns → (n : Named Schema) × (n ≡ get_or ns k n) × (string_bytes n.name ≡ name)
  pub first : (i : ℕ) (n : Named Schema) → i < length ns → i < k → n ≡ get_or ns i n → string_bytes n.name ≢ name

-- The index that was found is that of the variant that the text denotes.
one_index : (ns : List (Named Schema)) (i k : ℕ) (name : List ℕ) (n : Named Schema) → NamesDiffer (fields_of ns) → FirstCalled ns name k → i < length ns → n ≡ get_or ns i n
    → string_bytes n.name ≡ name → k ≡ i
one_index ns i k name n differ h low here is =
    let not_after : i < k → ⊥ = λ before. h.first i n low before here is in
    let within : k < length ns = omega (arith, not_after, low) in
    let f = h.found within in
    let not_before : k < i → ⊥ = λ before. one_before name ns k i f.0 n differ before low f.1 f.2 here is in
    omega (arith, not_after, not_before)

-- If neither the variants before index i nor variant i has the name, no variant before i + 1 has it.
pub not_called_more : (name : List ℕ) (ns : List (Named Schema)) (i : ℕ) (n : Named Schema) → i < length ns → ((k : ℕ) (m : Named Schema) → k < i → m ≡ get_or ns k m → string_bytes m.name ≢ name)
    → n ≡ get_or ns i n → string_bytes n.name ≢ name → (k : ℕ) (m : Named Schema) → k < i + 1 → m ≡ get_or ns k m → string_bytes m.name ≢ name
not_called_more name ns i n within before here none k m low is =
    let at : m ≡ get_or ns i m → string_bytes m.name ≢ name =
    λ own. subst (λ z. string_bytes z.name ≢ name) (sym (own ∙ get_or_default ns i m n within ∙ sym here)) none in
    below_more (λ j. m ≡ get_or ns j m → string_bytes m.name ≢ name) i (λ j less own. before j m less own) at k low is

same_variant : (ns : List (Named Schema)) (k : ℕ) (n u : Named Schema) → n ≡ get_or ns k n → k < length ns → u ≡ get_or ns k u → u ≡ n
same_variant ns k n u here low is = is ∙ get_or_default ns k u n low ∙ sym here

-- What the readers of an enum and of a variant's content promise.
abbrev pub ReadsChoice : List (Named Schema) → List ℕ → Result Value Stop → List ℕ → Type 0
ReadsChoice ns = ReadsTree (NamesDiffer (fields_of ns) × AreNamed (fields_of ns)) (IsVariant (reads_at (types_of (contents ns)))) (SpellsChoice (SpellsAt (fields_of ns)))

-- What reading the content of a variant promises.
abbrev pub ReadsContent : Schema → List ℕ → Result Value Stop → List ℕ → Type 0
ReadsContent s = ReadsTree (HasDistinctNames (layout_of s)) (reads (type_of s)) (SpellsContent (layout_of s) (SpellsTree (layout_of s)))

-- The variants of an enum, the word that was taken after blanks, and the index that was found for it.
module _ (ns : List (Named Schema)) {word a b m : List ℕ} {k : ℕ} (trim : IsTrimAsciiStart a b) (taken : TakesPhrase (IsWord word) b m) (one : WordTaken b word m) (index : FirstCalled ns word k) where
  -- The content that is next, of the variant at that index.
  record ChoiceFront (t : Tree) (x : List ℕ) : Type 0 where
    variant : Named Schema
    content : Tree
    low : k < length ns
    here : variant ≡ get_or ns k variant
    whole : t ≡ nodes.Variant k content
    few : k < 2 ^ 32
    names : HasDistinctNames (layout_of variant.content)
    is : reads (type_of variant.content) content
    left : TakesPhrase (SpellsContent (layout_of variant.content) (SpellsTree (layout_of variant.content)) content) m x

  choice_front : NamesDiffer (fields_of ns) × AreNamed (fields_of ns) → (t : Tree) (x : List ℕ) → IsVariant (reads_at (types_of (contents ns))) t
      → TakesPhrase (SpellsChoice (SpellsAt (fields_of ns)) t) a x → FollowsValue x → ChoiceFront t x
  choice_front (differ, named) t x (i, s, whole, few, is) h goes =
      let v = variant_front ns i s a x (subst (λ u. TakesPhrase (SpellsChoice (SpellsAt (fields_of ns)) u) a x) whole h) in
      let n = v.variant in
      let c = layout_of n.content in
      let filled = named_at ns i n v.low v.here named in
      let split = takes_split (IsWord (string_bytes n.name)) (SpellsContent c (SpellsTree c) s) a x v.taken in
      let ends = content_ends_word c s split.0 x goes split.2 in
      let same = one_word (string_bytes n.name) word b m split.0 filled.0 one (word_trimmed (string_bytes n.name) a b split.0 trim filled.0 split.1) ends in
      let at : k ≡ i = one_index ns i k word n differ index v.low v.here same.0 in
      record {
        variant = n;
        content = s;
        low = subst (λ j. j < length ns) (sym at) v.low;
        here = v.here ∙ ap (λ j. get_or ns j n) (sym at);
        whole = whole ∙ ap (λ j. nodes.Variant j s) (sym at);
        few = subst (λ j. j < 2 ^ 32) (sym at) few;
        names = filled.1;
        is = subst (λ P. P s) (content_at ns i n v.low v.here) is;
        left = subst (λ y. TakesPhrase (SpellsContent c (SpellsTree c) s) y x) same.1 split.2;
      }

  -- No variant has the name, or its index is too large.
  pub variant_missed : {x : List ℕ} (e : Stop) → (k < length ns → k < 2 ^ 32 → ⊥) → ReadsChoice ns a (Err e) x
  variant_missed e none = refused (λ names t x is h goes. let f = choice_front names t x is h goes in none f.low f.few)

  module _ (n : Named Schema) (here : n ≡ get_or ns k n) {c : List ℕ} where
    content_left : NamesDiffer (fields_of ns) × AreNamed (fields_of ns) → (r : Result Value Stop) → ReadsContent n.content m r c → (t : Tree) (x : List ℕ) → IsVariant (reads_at (types_of (contents ns))) t
        → TakesPhrase (SpellsChoice (SpellsAt (fields_of ns)) t) a x → FollowsValue x → ReadsAs (λ v. t ≡ nodes.Variant k (tree v)) r c x
    content_left names r h t x is taken goes =
        let f = choice_front names t x is taken goes in
        let at : f.variant ≡ n = same_variant ns k n f.variant here f.low f.here in
        read_more r c x (λ v same. f.whole ∙ ap (nodes.Variant k) same)
        (h.accepted (subst (λ z. HasDistinctNames (layout_of z.content)) at f.names) f.content x (subst (λ z. reads (type_of z.content) f.content) at f.is)
        (subst (λ z. TakesPhrase (SpellsContent (layout_of z.content) (SpellsTree (layout_of z.content)) f.content) m x) at f.left) goes)

    pub variant_refused : {x : List ℕ} {e : Stop} → ReadsContent n.content m (Err e) c → ReadsChoice ns a (Err e) x
    variant_refused {e = e} h = record { value = tt; spelled = tt; accepted = λ names t x is taken goes. content_left names (Err e) h t x is taken goes }

    pub variant_read : {v : Value} (w : Value) → tree w ≡ nodes.Variant k (tree v) → k < length ns → k < 2 ^ 32 → string_bytes n.name ≡ word → ReadsContent n.content m (Ok v) c → ReadsChoice ns a (Ok w) c
    variant_read {v} w seen low few name h = record {
      value = (k, tree v, seen, few, subst (λ P. P (tree v)) (sym (content_at ns k n low here)) h.value);
      spelled = rw (seen, variant_at ns k n low here)
          (takes_two (IsWord (string_bytes n.name)) (SpellsContent (layout_of n.content) (SpellsTree (layout_of n.content)) (tree v)) a m c
          (subst (λ w. TakesPhrase (IsWord w) a m) (sym name) (word_more word a b m trim taken)) h.spelled);
      accepted = λ names t x is taken goes. let got = content_left names (Ok v) h t x is taken goes in (got.0 ∙ sym seen, got.1);
    }
