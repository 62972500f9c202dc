-- What is left of a type after its brackets, its word and its `?`.
-- Signs are bytes: 38 is `&`, 40 `(`, 58 `:`, 60 `<`, 63 `?`, 91 `[`, 123 `{`, 124 `|`.
use Rattle.std.proofs.Common.{◌≡◌, ℕ, zero, suc, ◌+◌, ◌<◌, ◌≤◌, Bool, true, false, Decides, List, [], ◌∷◌, ◌++◌, length, refl, sym, ap, ◌∙◌, subst, true≢false, arith, ◌⊎◌, inl, inr}
use Rattle.std.specs.Char.{is_ascii_whitespace}
use Rattle.postcard_schema.specs.declared.schema.Schema.{Schema}
use Rattle.postcard_schema.specs.declared.schema.Schema.TheVariants as schemas
use Rattle.postcard_schema.specs.declared.leaf.Leaf.{Leaf}
use Rattle.postcard_schema_text.specs.declared.names.TypeName.{TypeName}
use Rattle.postcard_schema_text.specs.declared.names.TypeName.TheVariants as names
use Rattle.postcard_schema.specs.Meaning.{MessageType, option, type_of}
use Rattle.postcard_schema_text.specs.Angled.{IsTypeName}
use Rattle.postcard_schema_text.specs.Phrases.{takes_two, takes_as}
use Rattle.postcard_schema_text.specs.Text.{Then, TakesPhrase, IsSign, IsWord, IsVariantName, is_of_word, EndsWord, GoesOnBy}
use Rattle.postcard_schema_text.specs.Grammar.{Separated, IsListRest, IsTupleRest, IsFieldsRest, IsMapRest, IsBracesRest, IsNamedRest, IsWorded, IsPlain, IsReferenceRest, IsBehind, IsReferred, IsContent, IsVariantText, IsLead, IsEnumText, IsType}
use Rattle.postcard_schema_text.specs.Fronts.{follows_type, follows_variant, follows_name, IsNamed, Starts, StartsEnum}
use Rattle.postcard_schema_text.specs.FrontLemmas.{word_unblank, takes_split, WordTaken, sign_ends_word, sign_unblank, same_first, pass_head}
use Rattle.postcard_schema_text.proofs.Heads.{worded_head, referred_head, enum_starts, separated_first, starts_referred, starts_not_by, in_options, Signs, options_split, name_filled, one_name, name_end}
use Rattle.postcard_schema_text.proofs.Left.{after_sign, other_sign, goes_variant, goes_ends_word, goes_no_name, name_ends_word, not_next, not_next_type, row_follows}
use Rattle.postcard_schema_text.proofs.LeftOfFields.{fields_named}
use Rattle.postcard_schema_text.proofs.LeftOfEnum.{variant_front, whole_word}
use Rattle.postcard_schema_text.proofs.LeftOfAngled.{map_begins}

abbrev Types : Type 1
Types = Schema → List ℕ → Type 0

-- A word that has been taken, if it is filled, is at no sign.
word_not_sign : (v : List ℕ) (sign : ℕ) (a b r : List ℕ) → 0 < length v → is_ascii_whitespace sign ≡ false → is_of_word sign ≡ false → WordTaken a v b
    → TakesPhrase (IsSign sign) a r → ⊥
word_not_sign [] sign a b r filled black none taken h = absurd (omega (arith, filled))
word_not_sign (x ∷ v) sign a b r filled black none taken h =
    let same = same_first (sym taken.first ∙ sign_unblank sign a r black h) in
    true≢false (sym (pass_head is_of_word x v taken.bytes) ∙ ap is_of_word same ∙ none)

-- A filled word that is taken whole.
pub taken_whole : (w a b : List ℕ) → 0 < length w → TakesPhrase (IsWord w) a b → EndsWord b → WordTaken a w b
taken_whole [] a b filled word ends = absurd (omega (arith, filled))
taken_whole (x ∷ w) a b filled word ends = record { bytes = word.1.0; first = word_unblank x w a b word; ends = ends }

-- Without a bracket or a `&` the type begins with its name.
pub record WordFront (T : Types) (s : Schema) (v b r : List ℕ) : Type 0 where
  pub kind : TypeName
  pub filled : 0 < length v
  pub named : IsTypeName v kind
  pub left : TakesPhrase (IsNamedRest T kind s) b r

-- If no word follows a type, none goes on after the type's name.
name_ends : (T : Types) (k : TypeName) (s : Schema) (b r : List ℕ) → EndsWord r → TakesPhrase (IsNamedRest T k s) b r → EndsWord b
name_ends T k s b r ends h = elim (name_end T k s b r h) [
  | inl same ↦ subst EndsWord (sym same) ends
  | inr sign ↦ sign_ends_word 60 b sign.0 refl sign.1
]

-- The word that was taken is the name with which the type begins.
pub word_front : (T : Types) (s : Schema) (a v b r : List ℕ) → WordTaken a v b → EndsWord r → TakesPhrase (IsWorded T s) a r → WordFront T s v b r
word_front T s a v b r taken ends (front, (k, name, named, h), whole) =
    let m = takes_split (IsWord name) (IsNamedRest T k s) a r (front, h, whole) in
    let filled = name_filled name k named in
    let same = whole_word name v a b m.0 filled taken m.1 (name_ends T k s m.0 r ends m.2) in
    record {
      kind = k;
      filled = subst (λ t. 0 < length t) same.0 filled;
      named = subst (λ t. IsTypeName t k) same.0 named;
      left = subst (λ t. TakesPhrase (IsNamedRest T k s) t r) same.1 m.2;
    }

-- What remains of the text after a word that stands for k.
pub word_rest : (T : Types) (k : TypeName) (s : Schema) (a v b r : List ℕ) → WordTaken a v b → IsTypeName v k → EndsWord r
    → TakesPhrase (IsWorded T s) a r → TakesPhrase (IsNamedRest T k s) b r
word_rest T k s a v b r taken named ends h =
    let f = word_front T s a v b r taken ends h in
    subst (λ z. TakesPhrase (IsNamedRest T z s) b r) (one_name v f.kind k f.named named) f.left

-- Taking the name of a type and what belongs to it takes the type.
pub word_takes : (T : Types) (k : TypeName) (s : Schema) (v a b r : List ℕ) → IsTypeName v k → TakesPhrase (IsWord v) a b
    → TakesPhrase (IsNamedRest T k s) b r → TakesPhrase (IsWorded T s) a r
word_takes T k s v a b r named word h =
    takes_as (Then (IsWord v) (IsNamedRest T k s)) (IsWorded T s) a r (λ t q. (k, v, named, q)) (takes_two (IsWord v) (IsNamedRest T k s) a b r word h)

-- Nothing is left after the name of a type without parts.
pub leaf_left : (T : Types) (l : Leaf) (s : Schema) (b r : List ℕ) → TakesPhrase (IsNamedRest T (names.Leaf l) s) b r → (type_of s ≡ type_of (schemas.Leaf l)) × (r ≡ b)
leaf_left T l s b r (front, (is, none), whole) = (ap type_of is, sym (whole ∙ ap (λ t. t ++ r) none))

-- After a type come `?`, or what follows it.
question_ends : (n : ℕ) (m r : List ℕ) → GoesOnBy follows_type r → Signs 63 n m r → EndsWord m
question_ends zero m r goes same = subst EndsWord (sym same) (goes_ends_word r (goes_variant r goes))
question_ends (suc n) m r goes (k, sign, more) = sign_ends_word 63 m k refl sign

-- Signs `?` (byte 63) and what follows a type don't begin as what follows a variant's name.
question_no_name : (n : ℕ) (m r : List ℕ) → GoesOnBy follows_type r → Signs 63 n m r → Starts follows_name m → ⊥
question_no_name zero m r goes same h = goes_no_name r goes (subst (Starts follows_name) same h)
question_no_name (suc n) m r goes (k, sign, more) h = starts_not_by follows_name 63 m k refl refl h sign

-- They don't begin with a `:` (byte 58), either.
question_no_colon : (n : ℕ) (m r c : List ℕ) → GoesOnBy follows_type r → Signs 63 n m r → TakesPhrase (IsSign 58) m c → ⊥
question_no_colon zero m r c goes same colon = not_next_type 58 r c refl refl goes (subst (λ t. TakesPhrase (IsSign 58) t c) same colon)
question_no_colon (suc n) m r c goes (k, sign, more) colon = other_sign 63 58 m k c refl refl refl sign colon

-- Where a filled word is next, a type that is no enum begins with its name, after which it ends or `<` comes.
plain_word : (T : Types) (s : Schema) (a v b m : List ℕ) → 0 < length v → WordTaken a v b → EndsWord m → TakesPhrase (IsPlain T s) a m
    → (b ≡ m) ⊎ ((c : List ℕ) × TakesPhrase (IsSign 60) b c)
plain_word T s a v b m filled taken ends (front, inl h, whole) = let f = word_front T s a v b m taken ends (front, h, whole) in name_end T f.kind s b m f.left
plain_word T s a v b m filled taken ends (front, inr (inl h), whole) =
    let k = takes_split (IsSign 91) (IsListRest T s) a m (front, h, whole) in absurd (word_not_sign v 91 a b k.0 filled refl refl taken k.1)
plain_word T s a v b m filled taken ends (front, inr (inr (inl h)), whole) =
    let k = takes_split (IsSign 40) (IsTupleRest T s) a m (front, h, whole) in absurd (word_not_sign v 40 a b k.0 filled refl refl taken k.1)
plain_word T s a v b m filled taken ends (front, inr (inr (inr h)), whole) =
    let k = takes_split (IsSign 123) (IsBracesRest T s) a m (front, h, whole) in absurd (word_not_sign v 123 a b k.0 filled refl refl taken k.1)

-- The same of a type that may begin with `&`: where a word is next, it doesn't.
referred_word : (T : Types) (s : Schema) (a v b m : List ℕ) → 0 < length v → WordTaken a v b → EndsWord m → TakesPhrase (IsReferred T s) a m
    → (b ≡ m) ⊎ ((c : List ℕ) × TakesPhrase (IsSign 60) b c)
referred_word T s a v b m filled taken ends (front, (zero, h), whole) = plain_word T s a v b m filled taken ends (front, h, whole)
referred_word T s a v b m filled taken ends (front, (suc n, h), whole) =
    let k = takes_split (IsSign 38) (IsReferenceRest (IsBehind n T s)) a m (front, h, whole) in absurd (word_not_sign v 38 a b k.0 filled refl refl taken k.1)

-- A type that is no enum doesn't begin as one.
referred_no_enum : (T : Types) (s : Schema) (a m : List ℕ) → EndsWord m → (Starts follows_name m → ⊥) → StartsEnum a → TakesPhrase (IsReferred T s) a m → ⊥
referred_no_enum T s a m ends none (inl (rest, bar)) h = starts_not_by starts_referred 124 a rest refl refl (referred_head T s a m h) bar
referred_no_enum T s a m ends none (inr (v, b, named, word, next)) h =
    elim (referred_word T s a v b m named.0 (taken_whole v a b named.0 word (name_ends_word b next)) ends h) [
      | inl same ↦ none (subst (Starts follows_name) same next)
      | inr (c, sign) ↦ starts_not_by follows_name 60 b c refl refl next sign
    ]

-- A text that begins as an enum is one.
pub type_as_enum : (d e : ℕ) (s : Schema) (a r : List ℕ) → d ≡ suc e → StartsEnum a → GoesOnBy follows_type r → TakesPhrase (IsType d s) a r
    → TakesPhrase (IsEnumText (IsType e) s) a r
unfolding IsType
type_as_enum d e s a r deep starts goes h = by (subst (λ n. TakesPhrase (IsType n s) a r) deep h)
  where
    by : TakesPhrase (IsType (suc e) s) a r → TakesPhrase (IsEnumText (IsType e) s) a r
    by (front, inl k, whole) = (front, k, whole)
    by (front, inr (n, few, k), whole) =
        let split = options_split (IsReferred (IsType e)) n s a r (front, k, whole) in
        absurd (referred_no_enum (IsType e) split.0 a split.1 (question_ends n split.1 r goes split.4) (question_no_name n split.1 r goes split.4) starts split.2)

-- Whether an enum is next: a `|` is, or a word v, after which `|`, `(` or `{` is next as r says.
pub enum_bar_next : (text rest : List ℕ) → TakesPhrase (IsSign 124) text rest → Decides true (StartsEnum text)
enum_bar_next text rest bar = (λ e. inl (rest, bar), λ starts. refl)

-- After a variant's name, the next sign decides whether an enum is next.
pub enum_if : (text v b : List ℕ) (r : Bool) → ((e : List ℕ) → TakesPhrase (IsSign 124) text e → ⊥) → WordTaken text v b → TakesPhrase (IsWord v) text b → IsVariantName v
    → Decides r (Starts follows_name b) → Decides r (StartsEnum text)
enum_if text v b r none taken word named decides = (λ e. inr (v, b, named, word, decides.0 e), by)
  where
    by : StartsEnum text → r ≡ true
    by (inl (rest, bar)) = absurd (none rest bar)
    by (inr (w, a, other, h, next)) = decides.1 (subst (Starts follows_name) (whole_word w v text b a other.0 taken h (name_ends_word a next)).1 next)

-- A word that is no variant's name begins no enum.
pub enum_unless : (text v b : List ℕ) → ((e : List ℕ) → TakesPhrase (IsSign 124) text e → ⊥) → WordTaken text v b → (IsVariantName v → ⊥)
    → Decides false (StartsEnum text)
enum_unless text v b none taken lacks = (λ e. absurd (true≢false (sym e)), by)
  where
    by : StartsEnum text → false ≡ true
    by (inl (rest, bar)) = absurd (none rest bar)
    by (inr (w, a, other, h, next)) = absurd (lacks (subst IsVariantName (whole_word w v text b a other.0 taken h (name_ends_word a next)).0 other))

-- What is left of `?` after a type t with k of them.
pub record OptionsLeft (s : Schema) (t : MessageType) (k : ℕ) (a r : List ℕ) : Type 0 where
  pub more : ℕ
  pub few : k + more ≤ 4
  pub is : type_of s ≡ in_options more t
  pub signs : Signs 63 more a r

-- Any other text of a type begins with one that is no enum.
pub record PlainFront (T : Types) (s : Schema) (a r : List ℕ) : Type 0 where
  pub first : Schema
  pub rest : List ℕ
  pub taken : TakesPhrase (IsReferred T first) a rest
  pub ends : EndsWord rest
  pub left : OptionsLeft s (type_of first) 0 rest r

-- A type that doesn't begin as an enum is another type with its `?`.
pub type_as_plain : (d e : ℕ) (s : Schema) (a r : List ℕ) → d ≡ suc e → (StartsEnum a → ⊥) → GoesOnBy follows_type r → TakesPhrase (IsType d s) a r
    → PlainFront (IsType e) s a r
unfolding IsType
type_as_plain d e s a r deep none goes h = by (subst (λ n. TakesPhrase (IsType n s) a r) deep h)
  where
    by : TakesPhrase (IsType (suc e) s) a r → PlainFront (IsType e) s a r
    by (front, inl k, whole) = absurd (none (enum_starts (IsType e) s a r (front, k, whole)))
    by (front, inr (n, few, k), whole) =
        let split = options_split (IsReferred (IsType e)) n s a r (front, k, whole) in
        record { first = split.0; rest = split.1; taken = split.2; ends = question_ends n split.1 r goes split.4; left = record { more = n; few = omega (arith, few); is = split.3; signs = split.4 } }

-- After a `?` one less is left.
pub options_step : (s : Schema) (t : MessageType) (k : ℕ) (a b r : List ℕ) → OptionsLeft s t k a r → GoesOnBy follows_type r
    → TakesPhrase (IsSign 63) a b → OptionsLeft s (option t) (k + 1) b r
options_step s t k a b r h goes sign = by h.more h.few h.is h.signs
  where
    by : (n : ℕ) → k + n ≤ 4 → type_of s ≡ in_options n t → Signs 63 n a r → OptionsLeft s (option t) (k + 1) b r
    by zero few is same = absurd (not_next_type 63 r b refl refl goes (subst (λ x. TakesPhrase (IsSign 63) x b) same sign))
    by (suc n) few is (m, first, more) = record { more = n; few = omega (arith, few); is = is; signs = subst (λ x. Signs 63 n x r) (after_sign 63 a m b refl first sign) more }

-- Without a `?` none is left.
pub options_end : (s : Schema) (t : MessageType) (k : ℕ) (a r : List ℕ) → OptionsLeft s t k a r → ((b : List ℕ) → TakesPhrase (IsSign 63) a b → ⊥)
    → (type_of s ≡ t) × (r ≡ a)
options_end s t k a r h none = by h.more h.is h.signs
  where
    by : (n : ℕ) → type_of s ≡ in_options n t → Signs 63 n a r → (type_of s ≡ t) × (r ≡ a)
    by zero is same = (is, sym same)
    by (suc n) is (m, first, more) = absurd (none m first)

-- After four `?` there is no fifth.
pub options_full : (s : Schema) (t : MessageType) (k : ℕ) (a b r : List ℕ) → OptionsLeft s t k a r → 4 ≤ k → GoesOnBy follows_type r → TakesPhrase (IsSign 63) a b → ⊥
options_full s t k a b r h full goes sign = let more = options_step s t k a b r h goes sign in omega (arith, full, more.few)

-- What is left once a type was taken of which the text's first type is one.
pub options_of : (s x : Schema) (t : MessageType) (k : ℕ) (a b r : List ℕ) → t ≡ type_of x → a ≡ b → OptionsLeft s t k a r → OptionsLeft s (type_of x) k b r
options_of s x t k a b r same e h = record { more = h.more; few = h.few; is = h.is ∙ ap (in_options h.more) same; signs = subst (λ z. Signs 63 h.more z r) e h.signs }

-- What is left after the bracket of a type.
pub plain_list_left : (T : Types) (s : Schema) (a b r : List ℕ) → TakesPhrase (IsPlain T s) a r → TakesPhrase (IsSign 91) a b → TakesPhrase (IsListRest T s) b r
plain_list_left T s a b r (front, inl h, whole) sign = absurd (starts_not_by is_of_word 91 a b refl refl (worded_head T s a r (front, h, whole)) sign)
plain_list_left T s a b r (front, inr (inl k), whole) sign =
    let m = takes_split (IsSign 91) (IsListRest T s) a r (front, k, whole) in
    subst (λ t. TakesPhrase (IsListRest T s) t r) (after_sign 91 a m.0 b refl m.1 sign) m.2
plain_list_left T s a b r (front, inr (inr (inl k)), whole) sign =
    let m = takes_split (IsSign 40) (IsTupleRest T s) a r (front, k, whole) in absurd (other_sign 40 91 a m.0 b refl refl refl m.1 sign)
plain_list_left T s a b r (front, inr (inr (inr k)), whole) sign =
    let m = takes_split (IsSign 123) (IsBracesRest T s) a r (front, k, whole) in absurd (other_sign 123 91 a m.0 b refl refl refl m.1 sign)

-- After a `(`, the rest of a tuple is left.
pub plain_tuple_left : (T : Types) (s : Schema) (a b r : List ℕ) → TakesPhrase (IsPlain T s) a r → TakesPhrase (IsSign 40) a b → TakesPhrase (IsTupleRest T s) b r
plain_tuple_left T s a b r (front, inl h, whole) sign = absurd (starts_not_by is_of_word 40 a b refl refl (worded_head T s a r (front, h, whole)) sign)
plain_tuple_left T s a b r (front, inr (inl k), whole) sign =
    let m = takes_split (IsSign 91) (IsListRest T s) a r (front, k, whole) in absurd (other_sign 91 40 a m.0 b refl refl refl m.1 sign)
plain_tuple_left T s a b r (front, inr (inr (inl k)), whole) sign =
    let m = takes_split (IsSign 40) (IsTupleRest T s) a r (front, k, whole) in
    subst (λ t. TakesPhrase (IsTupleRest T s) t r) (after_sign 40 a m.0 b refl m.1 sign) m.2
plain_tuple_left T s a b r (front, inr (inr (inr k)), whole) sign =
    let m = takes_split (IsSign 123) (IsBracesRest T s) a r (front, k, whole) in absurd (other_sign 123 40 a m.0 b refl refl refl m.1 sign)

-- After a `{`, the rest of a struct or a map is left.
pub plain_braces_left : (T : Types) (s : Schema) (a b r : List ℕ) → TakesPhrase (IsPlain T s) a r → TakesPhrase (IsSign 123) a b → TakesPhrase (IsBracesRest T s) b r
plain_braces_left T s a b r (front, inl h, whole) sign = absurd (starts_not_by is_of_word 123 a b refl refl (worded_head T s a r (front, h, whole)) sign)
plain_braces_left T s a b r (front, inr (inl k), whole) sign =
    let m = takes_split (IsSign 91) (IsListRest T s) a r (front, k, whole) in absurd (other_sign 91 123 a m.0 b refl refl refl m.1 sign)
plain_braces_left T s a b r (front, inr (inr (inl k)), whole) sign =
    let m = takes_split (IsSign 40) (IsTupleRest T s) a r (front, k, whole) in absurd (other_sign 40 123 a m.0 b refl refl refl m.1 sign)
plain_braces_left T s a b r (front, inr (inr (inr k)), whole) sign =
    let m = takes_split (IsSign 123) (IsBracesRest T s) a r (front, k, whole) in
    subst (λ t. TakesPhrase (IsBracesRest T s) t r) (after_sign 123 a m.0 b refl m.1 sign) m.2

-- Without a bracket a type begins with a word.
pub plain_word_left : (T : Types) (s : Schema) (a r : List ℕ) → ((c : List ℕ) → TakesPhrase (IsSign 91) a c → ⊥)
    → ((c : List ℕ) → TakesPhrase (IsSign 40) a c → ⊥) → ((c : List ℕ) → TakesPhrase (IsSign 123) a c → ⊥)
    → TakesPhrase (IsPlain T s) a r → TakesPhrase (IsWorded T s) a r
plain_word_left T s a r no_list no_tuple no_braces (front, inl h, whole) = (front, h, whole)
plain_word_left T s a r no_list no_tuple no_braces (front, inr (inl k), whole) =
    let m = takes_split (IsSign 91) (IsListRest T s) a r (front, k, whole) in absurd (no_list m.0 m.1)
plain_word_left T s a r no_list no_tuple no_braces (front, inr (inr (inl k)), whole) =
    let m = takes_split (IsSign 40) (IsTupleRest T s) a r (front, k, whole) in absurd (no_tuple m.0 m.1)
plain_word_left T s a r no_list no_tuple no_braces (front, inr (inr (inr k)), whole) =
    let m = takes_split (IsSign 123) (IsBracesRest T s) a r (front, k, whole) in absurd (no_braces m.0 m.1)

-- No type begins with a word and a `:`.
type_not_named : (d : ℕ) (s : Schema) (a v b c m : List ℕ) → TakesPhrase (IsType d s) a m → GoesOnBy follows_type m → WordTaken a v b → 0 < length v
    → TakesPhrase (IsSign 58) b c → ⊥
unfolding IsType
type_not_named zero s a v b c m (front, none, whole) goes taken filled colon = none
type_not_named (suc d) s a v b c m (front, inl (vs, is, differ, h), whole) goes taken filled colon =
    by_lead (takes_split (IsLead (length vs.items)) (Separated (IsVariantText (IsType d)) 124 vs.items) a m (front, h, whole))
  where
    by_content : (x : Schema) (k : List ℕ) → GoesOnBy follows_variant k → TakesPhrase (IsContent (IsType d) x) b k → ⊥
    by_content x k next (f, inl h, e) = let p = takes_split (IsSign 40) (IsTupleRest (IsType d) x) b k (f, h, e) in other_sign 40 58 b p.0 c refl refl refl p.1 colon
    by_content x k next (f, inr (inl h), e) =
        let p = takes_split (IsSign 123) (IsFieldsRest (IsType d) x) b k (f, h, e) in other_sign 123 58 b p.0 c refl refl refl p.1 colon
    by_content x k next (f, inr (inr (v, is, empty, none)), e) =
        not_next 58 k c refl refl next (subst (λ t. TakesPhrase (IsSign 58) t c) (e ∙ ap (λ t. t ++ k) none) colon)

    by_lead : (k : List ℕ) × TakesPhrase (IsLead (length vs.items)) a k × TakesPhrase (Separated (IsVariantText (IsType d)) 124 vs.items) k m → ⊥
    by_lead (k, (f, inl sign, e), row) = word_not_sign v 124 a b k filled refl refl taken (f, sign, e)
    by_lead (k, (f, inr (many, nothing), e), row) =
        let first = separated_first (IsVariantText (IsType d)) 124 vs.items k m row in
        let next = row_follows (IsVariantText (IsType d)) 124 follows_variant first.1 first.2 m refl first.5 (goes_variant m goes) in
        let same : a ≡ k = e ∙ ap (λ t. t ++ k) nothing in
        let variant = variant_front (IsType d) first.0 a v b first.2 taken (subst (λ t. TakesPhrase (IsVariantText (IsType d) first.0) t first.2) (sym same) first.4) next in
        by_content first.0.content first.2 next variant.left
type_not_named (suc d) s a v b c m (front, inr (n, few, h), whole) goes taken filled colon =
    let split = options_split (IsReferred (IsType d)) n s a m (front, h, whole) in
    elim (referred_word (IsType d) split.0 a v b split.1 filled taken (question_ends n split.1 m goes split.4) split.2) [
      | inl same ↦ question_no_colon n split.1 m c goes split.4 (subst (λ t. TakesPhrase (IsSign 58) t c) same colon)
      | inr (k, sign) ↦ other_sign 60 58 b k c refl refl refl sign colon
    ]

-- What follows a `{` is a struct if a name and a `:` are next, and else a map.
pub braces_as_fields : (d : ℕ) (s : Schema) (a r : List ℕ) → IsNamed a → TakesPhrase (IsBracesRest (IsType d) s) a r → TakesPhrase (IsFieldsRest (IsType d) s) a r
braces_as_fields d s a r named (front, inl h, whole) = (front, h, whole)
braces_as_fields d s a r (v, b, c, filled, word, colon) (front, inr h, whole) =
    let k = map_begins (IsType d) s a r (front, h, whole) in
    absurd (type_not_named d k.0 a v b c k.1 k.2 k.3 (taken_whole v a b filled word (sign_ends_word 58 b c refl colon)) filled colon)

-- After a `{` without a field, the rest of a map is left.
pub braces_as_map : (d : ℕ) (s : Schema) (a r : List ℕ) → (IsNamed a → ⊥) → TakesPhrase (IsBracesRest (IsType d) s) a r → TakesPhrase (IsMapRest (IsType d) s) a r
braces_as_map d s a r none (front, inl h, whole) = absurd (none (fields_named (IsType d) s a r (front, h, whole)))
braces_as_map d s a r none (front, inr h, whole) = (front, h, whole)

-- No type nests in no levels.
pub no_type : (d : ℕ) (s : Schema) (a r : List ℕ) → d ≡ 0 → TakesPhrase (IsType d s) a r → ⊥
unfolding IsType
no_type d s a r none h = (subst (λ n. TakesPhrase (IsType n s) a r) none h).1
