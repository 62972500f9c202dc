-- What is left of a type of one type or two, after the first.
-- Signs are bytes: 61 is `=`, 62 `>`, 125 `}`.
use Rattle.std.proofs.Common.{◌≡◌, ℕ, List, refl, sym, ap, ◌∙◌, subst}
use Rattle.postcard_schema.specs.declared.leaf.ByteOrder.{ByteOrder}
use Rattle.postcard_schema.specs.declared.leaf.Leaf.TheVariants as leaves
use Rattle.postcard_schema.specs.declared.schema.Schema.{Schema}
use Rattle.postcard_schema.specs.Lemmas.{type_of_leaf, type_of_option, type_of_seq, type_of_map, type_of_enum}
use Rattle.postcard_schema.specs.Meaning.{MessageType, leaf, option, seq, choice, entry_of, no_types, then_type, contents, type_of, types_of}
use Rattle.postcard_schema_text.specs.declared.angled.Holder.{Holder}
use Rattle.postcard_schema_text.specs.declared.angled.Holder.TheVariants as holders
use Rattle.postcard_schema_text.specs.declared.angled.Pair.{Pair}
use Rattle.postcard_schema_text.specs.declared.angled.Pair.TheVariants as pairs
use Rattle.postcard_schema_text.specs.Text.{Then, TakesPhrase, IsSign, GoesOnBy}
use Rattle.postcard_schema_text.specs.Angled.{MayHold, IsHolderOf, MayPair, IsPairOf}
use Rattle.postcard_schema_text.specs.Grammar.{IsEndedBy, IsOfOne, IsOfTwo, IsMapValue, IsMapRest}
use Rattle.postcard_schema_text.specs.Fronts.{follows_type, Anything, HasFront, IsOnlyFront, SameType}
use Rattle.postcard_schema_text.specs.FrontLemmas.{takes_split}
use Rattle.postcard_schema_text.specs.Phrases.{takes_two, takes_as}
use Rattle.postcard_schema_text.proofs.Left.{behind_sign}
use Rattle.postcard_schema_text.proofs.LeftOfList.{ended_begins}

abbrev Types : Type 1
Types = Schema → List ℕ → Type 0

-- The type of the integers of a type at their full width.
abbrev pub fixed_type : ByteOrder → MessageType → MessageType
fixed_type order (leaf (leaves.Integer integer)) = leaf (leaves.Fixed order integer)
fixed_type order t = t

-- The type of a schema that is of one type, or of two.
abbrev pub holder_type : Holder → MessageType → MessageType
holder_type holders.Itself t = t
holder_type holders.List t = seq t
holder_type holders.Option t = option t
holder_type (holders.Fixed order) t = fixed_type order t

-- The type of a map or of a `Result`, from the two types in its `<` and `>`.
abbrev pub pair_type : Pair → MessageType → MessageType → MessageType
pair_type pairs.Map t u = seq (entry_of t u)
pair_type pairs.Result t u = choice (then_type t (then_type u no_types))

-- The schema of a type of one type has the type that `holder_type` names.
pub type_of_holder : (h : Holder) (x s : Schema) → IsHolderOf h x s → type_of s ≡ holder_type h (type_of x)
type_of_holder holders.Itself x s is = ap type_of is
type_of_holder holders.List x s (b, is, value) = ap type_of is ∙ type_of_seq b ∙ ap (λ z. seq (type_of z)) value
type_of_holder holders.Option x s (b, is, value) = ap type_of is ∙ type_of_option b ∙ ap (λ z. option (type_of z)) value
type_of_holder (holders.Fixed order) x s (integer, wide, made) = ap type_of made ∙ type_of_leaf (leaves.Fixed order integer) ∙ ap (fixed_type order) (sym wide.0)

-- The schema of a type of two types has the type that `pair_type` names.
pub type_of_pair : (p : Pair) (x y s : Schema) → IsPairOf p x y s → type_of s ≡ pair_type p (type_of x) (type_of y)
type_of_pair pairs.Map x y s (b, c, is, key, value) =
    ap type_of is ∙ type_of_map b c ∙ ap (λ z. seq (entry_of (type_of z) (type_of c.value))) key ∙ ap (λ z. seq (entry_of (type_of x) (type_of z))) value
type_of_pair pairs.Result x y s (v, n, m, is, items, (ok, first), (err, second)) =
    ap type_of is ∙ type_of_enum v ∙ ap (λ ns. choice (types_of (contents ns))) items ∙ ap (λ z. choice (then_type (type_of z) (then_type (type_of m.content) no_types))) first
    ∙ ap (λ z. choice (then_type (type_of x) (then_type (type_of z) no_types))) second

-- The type in a type of one type.
pub record OneFront (P : Types) (h : Holder) (s : Schema) (a r : List ℕ) : Type 0 where
  pub inner : Schema
  pub may : MayHold h (type_of inner)
  pub is : type_of s ≡ holder_type h (type_of inner)
  pub taken : TakesPhrase (P inner) a r

-- After the `<` of a type of one type, that type is next.
pub one_front : (P : Types) (h : Holder) (s : Schema) (a r : List ℕ) → TakesPhrase (IsOfOne h P s) a r → OneFront P h s a r
one_front P h s a r (front, (x, may, is, k), whole) = record { inner = x; may = may; is = type_of_holder h x s is; taken = (front, k, whole) }

-- What was read is that type.
pub record OneRead (h : Holder) (s : Schema) (t : MessageType) (c r : List ℕ) : Type 0 where
  pub may : MayHold h t
  pub is : type_of s ≡ holder_type h t
  pub same : r ≡ c

-- If `x` is the only type there, the whole is the holder of its type, and the same bytes follow.
pub one_read : (P : Types) (h : Holder) (s x : Schema) (a c r : List ℕ) → IsOnlyFront SameType Anything P x a c → TakesPhrase (IsOfOne h P s) a r
    → OneRead h s (type_of x) c r
one_read P h s x a c r one k =
    let f = one_front P h s a r k in
    let only = one f.inner r f.taken tt in
    record { may = subst (MayHold h) only.0 f.may; is = f.is ∙ ap (holder_type h) only.0; same = only.1 }

-- Taking the one type takes what is in the `<` and `>`.
pub one_takes : (P : Types) (h : Holder) (x s : Schema) (a r : List ℕ) → TakesPhrase (P x) a r → MayHold h (type_of x) × IsHolderOf h x s
    → TakesPhrase (IsOfOne h P s) a r
one_takes P h x s a r inner (may, is) = takes_as (P x) (IsOfOne h P s) a r (λ t k. (x, may, is, k)) inner

-- The first type of a type of two types.
pub two_begin : (P Q : Types) (p : Pair) (s : Schema) (a r : List ℕ) → TakesPhrase (IsOfTwo p P Q s) a r → HasFront Anything P a
two_begin P Q p s a r (front, (x, y, may, is, h), whole) = let k = takes_split (P x) (Q y) a r (front, h, whole) in (x, k.0, k.1, tt)

-- What is left after it.
pub record SecondLeft (Q : Types) (p : Pair) (s : Schema) (t : MessageType) (c r : List ℕ) : Type 0 where
  pub second : Schema
  pub may : MayPair p t (type_of second)
  pub is : type_of s ≡ pair_type p t (type_of second)
  pub taken : TakesPhrase (Q second) c r

-- After the first type, the second is left.
pub second_left : (P Q : Types) (p : Pair) (s x : Schema) (a c r : List ℕ) → IsOnlyFront SameType Anything P x a c → TakesPhrase (IsOfTwo p P Q s) a r
    → SecondLeft Q p s (type_of x) c r
second_left P Q p s x a c r one (front, (y, z, may, is, h), whole) =
    let k = takes_split (P y) (Q z) a r (front, h, whole) in
    let only = one y k.0 k.1 tt in
    record {
      second = z;
      may = subst (λ t. MayPair p t (type_of z)) only.0 may;
      is = type_of_pair p y z s is ∙ ap (λ t. pair_type p t (type_of z)) only.0;
      taken = subst (λ t. TakesPhrase (Q z) t r) only.1 k.2;
    }

-- What was read as the second type is that type.
pub record TwoRead (p : Pair) (s : Schema) (t u : MessageType) (e r : List ℕ) : Type 0 where
  pub may : MayPair p t u
  pub is : type_of s ≡ pair_type p t u
  pub same : r ≡ e

-- The same of a pair, whose second type is `y`.
pub two_read : (Q : Types) (p : Pair) (s y : Schema) (t : MessageType) (c e r : List ℕ) → IsOnlyFront SameType Anything Q y c e
    → SecondLeft Q p s t c r → TwoRead p s t (type_of y) e r
two_read Q p s y t c e r one h =
    let only = one h.second r h.taken tt in
    record { may = subst (MayPair p t) only.0 h.may; is = h.is ∙ ap (pair_type p t) only.0; same = only.1 }

-- Taking the two types takes what is in the `<` and `>`.
pub two_take : (P Q : Types) (p : Pair) (x y s : Schema) (a b r : List ℕ) → TakesPhrase (P x) a b → TakesPhrase (Q y) b r
    → MayPair p (type_of x) (type_of y) × IsPairOf p x y s → TakesPhrase (IsOfTwo p P Q s) a r
two_take P Q p x y s a b r first second (may, is) =
    takes_as (Then (P x) (Q y)) (IsOfTwo p P Q s) a r (λ t k. (x, y, may, is, k)) (takes_two (P x) (Q y) a b r first second)

-- The key type of a map, and the text that remains after it and its `=>`.
pub map_begins : (T : Types) (s : Schema) (a r : List ℕ) → TakesPhrase (IsMapRest T s) a r → HasFront (GoesOnBy follows_type) T a
map_begins T s a r h = let k = two_begin (IsEndedBy T 61) (IsMapValue T) pairs.Map s a r h in ended_begins T 61 k.0 a k.1 refl k.2

-- After the `=` of a map, a `>` is next.
pub map_arrow : (T : Types) (s : Schema) (t : MessageType) (c r : List ℕ) → SecondLeft (IsMapValue T) pairs.Map s t c r → (d : List ℕ) × TakesPhrase (IsSign 62) c d
map_arrow T s t c r h = let k = takes_split (IsSign 62) (IsEndedBy T 125 h.second) c r h.taken in (k.0, k.1)

-- After the `=>` of a map, its value type is left.
pub map_value : (T : Types) (s : Schema) (t : MessageType) (c d r : List ℕ) → TakesPhrase (IsSign 62) c d
    → SecondLeft (IsMapValue T) pairs.Map s t c r → SecondLeft (IsEndedBy T 125) pairs.Map s t d r
map_value T s t c d r arrow h = record { second = h.second; may = h.may; is = h.is; taken = behind_sign 62 (IsEndedBy T 125 h.second) c d r refl arrow h.taken }

-- Taking a `>` and a type that ends with `}` takes the value of a map.
pub value_takes : (T : Types) (y : Schema) (c d r : List ℕ) → TakesPhrase (IsSign 62) c d → TakesPhrase (IsEndedBy T 125 y) d r → TakesPhrase (IsMapValue T y) c r
value_takes T y c d r arrow h = takes_two (IsSign 62) (IsEndedBy T 125 y) c d r arrow h
