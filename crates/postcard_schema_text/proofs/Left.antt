-- What is left of each phrase of the grammar once its first parts are taken from the text. The records `..Front`, `..After` and `..Left` of
-- the files `LeftOf..` describe the text at a point of reading. A lemma leads from one point to the next.
use Rattle.std.proofs.Common.{arith, ◌≡◌, ℕ, nat_eq, Bool, true, false, List, [], ◌∷◌, ◌++◌, string_bytes, refl, sym, ap, ◌∙◌, subst, true≢false, eq-eqb, ◌⊎◌, inl, inr}
use Rattle.std.proofs.lemmas.Bool.Decides.{nat_tests}
use Rattle.std.specs.Char.{is_ascii_whitespace}
use Rattle.std.proofs.lemmas.List.{append_assoc, append-nil}
use Rattle.std.proofs.lemmas.List.Elements.{All-nil, All-cons, All-head, All-tail}
use Rattle.postcard_schema.specs.declared.schema.Named.{Named}
use Rattle.postcard_schema.specs.declared.schema.Schema.{Schema}
use Rattle.postcard_schema.specs.Meaning.{contents, then_type, type_of, types_of}
use Rattle.postcard_schema_text.specs.Names.{IsCalled, HasOther, IsNewTo, NamesDiffer}
use Rattle.postcard_schema_text.specs.Text.{Then, TakesPhrase, IsSign, is_of_word, EndsWord, GoesOnBy}
use Rattle.postcard_schema_text.specs.Grammar.{Separated, IsNew}
use Rattle.postcard_schema_text.specs.Fronts.{follows_type, follows_variant, follows_name, Starts, SameType, SameNamed}
use Rattle.postcard_schema_text.specs.FrontLemmas.{takes_split, sign_unblank, unblank_all, unblank_black, same_first, same_rest, not_empty, blank_ends, goes_on_ends_word, goes_on_not_by}
use Rattle.postcard_schema_text.proofs.Heads.{After, separated_first, starts_not_by}

-- Two signs at one place are the same, and so are the texts after them.
pub one_sign : (x y : ℕ) (a r q : List ℕ) → is_ascii_whitespace x ≡ false → is_ascii_whitespace y ≡ false → TakesPhrase (IsSign x) a r
    → TakesPhrase (IsSign y) a q → (x ≡ y) × (r ≡ q)
one_sign x y a r q b c h k = let e = sym (sign_unblank x a r b h) ∙ sign_unblank y a q c k in (same_first e, same_rest e)

-- The text after a sign, at a known sign.
pub after_sign : (x : ℕ) (a r q : List ℕ) → is_ascii_whitespace x ≡ false → TakesPhrase (IsSign x) a r → TakesPhrase (IsSign x) a q → r ≡ q
after_sign x a r q black h k = (one_sign x x a r q black black h k).1

-- What is left of a phrase that begins with a sign, after the sign.
pub behind_sign : (sign : ℕ) (Q : List ℕ → Type 0) (a b r : List ℕ) → is_ascii_whitespace sign ≡ false → TakesPhrase (IsSign sign) a b
    → TakesPhrase (Then (IsSign sign) Q) a r → TakesPhrase Q b r
behind_sign sign Q a b r black taken h = let k = takes_split (IsSign sign) Q a r h in subst (λ t. TakesPhrase Q t r) (after_sign sign a k.0 b black k.1 taken) k.2

-- Two different signs are not both at one place.
pub other_sign : (x y : ℕ) (a r q : List ℕ) → is_ascii_whitespace x ≡ false → is_ascii_whitespace y ≡ false → nat_eq x y ≡ false
    → TakesPhrase (IsSign x) a r → TakesPhrase (IsSign y) a q → ⊥
other_sign x y a r q b c differ h k = true≢false (sym (eq-eqb x y (one_sign x y a r q b c h k).0) ∙ differ)

-- What may follow a type is no blank.
pub follows_black : (b : ℕ) → follows_type b ≡ true → is_ascii_whitespace b ≡ false
follows_black b h = grind (arith, nat_tests, h)

-- What may follow a variant is no blank.
variant_black : (b : ℕ) → follows_variant b ≡ true → is_ascii_whitespace b ≡ false
variant_black b h = grind (arith, nat_tests, h)

-- What may follow a variant is no byte of a word.
follows_ends : (b : ℕ) → follows_variant b ≡ true → is_of_word b ≡ false
follows_ends b h = grind (arith, nat_tests, h)

-- What may follow a type may follow a variant.
wider : (b : ℕ) → follows_type b ≡ true → follows_variant b ≡ true
wider b h = grind (arith, nat_tests, h)

-- What follows a type follows a variant.
pub goes_variant : (a : List ℕ) → GoesOnBy follows_type a → GoesOnBy follows_variant a
goes_variant a (inl blank) = inl blank
goes_variant a (inr (sign, after, pass, h)) = inr (sign, after, wider sign pass, h)

-- What follows a type or a variant doesn't go on with a word.
pub goes_ends_word : (a : List ℕ) → GoesOnBy follows_variant a → EndsWord a
goes_ends_word a h = goes_on_ends_word follows_variant a follows_ends h

-- What follows a type or a variant doesn't begin with another sign.
pub not_next : (sign : ℕ) (a r : List ℕ) → is_ascii_whitespace sign ≡ false → follows_variant sign ≡ false → GoesOnBy follows_variant a
    → TakesPhrase (IsSign sign) a r → ⊥
not_next sign a r black none goes h = goes_on_not_by follows_variant sign a r variant_black black none goes (sign_unblank sign a r black h)

-- What follows a type doesn't begin with another sign.
pub not_next_type : (sign : ℕ) (a r : List ℕ) → is_ascii_whitespace sign ≡ false → follows_type sign ≡ false → GoesOnBy follows_type a → TakesPhrase (IsSign sign) a r → ⊥
not_next_type sign a r black none goes h = goes_on_not_by follows_type sign a r follows_black black none goes (sign_unblank sign a r black h)

-- What may follow a variant's name is no byte of a word.
name_ends : (b : ℕ) → follows_name b ≡ true → is_of_word b ≡ false
name_ends b h = grind (arith, nat_tests, h)

-- A text of which the first byte after blanks is `|`, `(` or `{` goes on with no word.
pub name_ends_word : (text : List ℕ) → Starts follows_name text → EndsWord text
name_ends_word [] h = tt
name_ends_word (b ∷ text) (x, after, e, pass) = by (is_ascii_whitespace b) refl
  where
    by : (w : Bool) → is_ascii_whitespace b ≡ w → is_of_word b ≡ false
    by true blank = blank_ends b blank
    by false black = subst (λ z. is_of_word z ≡ false) (sym (same_first (sym (unblank_black b text black) ∙ e))) (name_ends x pass)

-- What may follow a type may not follow a variant's name.
follows_no_name : (b : ℕ) → follows_type b ≡ true → follows_name b ≡ false
follows_no_name b h = grind (arith, nat_tests, h)

-- What follows a type begins with none of these.
pub goes_no_name : (a : List ℕ) → GoesOnBy follows_type a → Starts follows_name a → ⊥
goes_no_name a (inl blank) (x, t, e, pass) = not_empty (sym (unblank_all a blank) ∙ e)
goes_no_name a (inr (sign, after, pass, h)) starts = starts_not_by follows_name sign a after (follows_black sign pass) (follows_no_name sign pass) starts h

-- Two rows, alike one by one.
abbrev pub Alike : {A : Type 0} → (A → A → Type 0) → List A → List A → Type 0
Alike R [] [] = Unit {0}
Alike R [] (y ∷ ys) = ⊥
Alike R (x ∷ xs) [] = ⊥
Alike R (x ∷ xs) (y ∷ ys) = R x y × Alike R xs ys

-- Rows that are alike stay alike with one more item on each side.
pub alike_more : {A : Type 0} (R : A → A → Type 0) (xs ys : List A) (x y : A) → Alike R xs ys → R x y → Alike R (xs ++ x ∷ []) (ys ++ y ∷ [])
alike_more R [] [] x y h k = (k, tt)
alike_more R [] (v ∷ ys) x y h k = absurd h
alike_more R (u ∷ xs) [] x y h k = absurd h
alike_more R (u ∷ xs) (v ∷ ys) x y h k = (h.0, alike_more R xs ys x y h.1 k)

-- Rows of the same types, and of contents of the same types.
pub alike_types : (xs ys : List Schema) → Alike SameType xs ys → types_of xs ≡ types_of ys
alike_types [] [] h = refl
alike_types [] (v ∷ ys) h = absurd h
alike_types (u ∷ xs) [] h = absurd h
alike_types (u ∷ xs) (v ∷ ys) h = ap (λ t. then_type t (types_of xs)) h.0 ∙ ap (then_type (type_of v)) (alike_types xs ys h.1)

-- Fields or variants with contents of the same types have the same types in a row.
pub alike_contents : (xs ys : List (Named Schema)) → Alike SameNamed xs ys → types_of (contents xs) ≡ types_of (contents ys)
alike_contents [] [] h = refl
alike_contents [] (v ∷ ys) h = absurd h
alike_contents (u ∷ xs) [] h = absurd h
alike_contents (u ∷ xs) (v ∷ ys) h = ap (λ t. then_type t (types_of (contents xs))) h.0.0 ∙ ap (then_type (type_of v.content)) (alike_contents xs ys h.1)

-- A name that is new to a row is new to one alike.
pub alike_new : (xs ys : List (Named Schema)) (name : List ℕ) → Alike SameNamed xs ys → IsNewTo xs name → IsNewTo ys name
alike_new [] [] name h k = All-nil (HasOther name)
alike_new [] (v ∷ ys) name h k = absurd h
alike_new (u ∷ xs) [] name h k = absurd h
alike_new (u ∷ xs) (v ∷ ys) name h k =
    All-cons (HasOther name) v ys (λ same. All-head (HasOther name) u xs k (h.0.1 ∙ same)) (alike_new xs ys name h.1 (All-tail (HasOther name) u xs k))

-- A name that is new to a row is not the name of an item within it.
not_in : (before : List (Named Schema)) (x : Named Schema) (more : List (Named Schema)) (name : List ℕ) → IsNewTo (before ++ x ∷ more) name → HasOther name x
not_in [] x more name h = All-head (HasOther name) x more h
not_in (b ∷ before) x more name h = not_in before x more name (All-tail (HasOther name) b (before ++ x ∷ more) h)

-- The name of one of a row in which no two have the same is new to those before it.
pub new_at : (before more : List (Named Schema)) (x : Named Schema) → NamesDiffer (before ++ x ∷ more) → IsNewTo before (string_bytes x.name)
new_at [] more x differ = All-nil (HasOther (string_bytes x.name))
new_at (b ∷ before) more x differ =
    All-cons (HasOther (string_bytes x.name)) b before (λ same. not_in before x more (string_bytes b.name) differ.0 (sym same)) (new_at before more x differ.1)

-- What is left of a row, of which those before are like `done`.
pub record RowLeft {A : Type 0} (P : A → List ℕ → Type 0) (sign : ℕ) (R : A → A → Type 0) (done items : List A) (a r : List ℕ) : Type 0 where
  pub before : List A
  pub more : List A
  pub whole : items ≡ before ++ more
  pub alike : Alike R before done
  pub left : TakesPhrase (Separated P sign more) a r

-- The same after one of the row.
pub record RowAfter {A : Type 0} (P : A → List ℕ → Type 0) (sign : ℕ) (R : A → A → Type 0) (done items : List A) (a r : List ℕ) : Type 0 where
  pub before : List A
  pub more : List A
  pub whole : items ≡ before ++ more
  pub alike : Alike R before done
  pub left : After P sign more a r

-- The next of the row.
pub record RowFront {A : Type 0} (P : A → List ℕ → Type 0) (sign : ℕ) (R : A → A → Type 0) (done items : List A) (a r : List ℕ) : Type 0 where
  pub before : List A
  pub first : A
  pub more : List A
  pub rest : List ℕ
  pub whole : items ≡ before ++ first ∷ more
  pub alike : Alike R before done
  pub taken : TakesPhrase (P first) a rest
  pub left : After P sign more rest r

-- Where an item is next, the text begins with it.
pub row_front : {A : Type 0} (P : A → List ℕ → Type 0) (sign : ℕ) (R : A → A → Type 0) (done items : List A) (a r : List ℕ)
    → RowLeft P sign R done items a r → RowFront P sign R done items a r
row_front P sign R done items a r h =
    let k = separated_first P sign h.more a r h.left in
    record { before = h.before; first = k.0; more = k.1; rest = k.2; whole = h.whole ∙ ap (λ t. h.before ++ t) k.3; alike = h.alike; taken = k.4; left = k.5 }

-- Once that item is taken, the row goes on after it.
pub row_after : {A : Type 0} (P : A → List ℕ → Type 0) (sign : ℕ) (R : A → A → Type 0) (done items : List A) (y : A) (a m r : List ℕ)
    → (h : RowFront P sign R done items a r) → R h.first y → h.rest ≡ m → RowAfter P sign R (done ++ y ∷ []) items m r
row_after P sign R done items y a m r h same e = record {
  before = h.before ++ h.first ∷ [];
  more = h.more;
  whole = h.whole ∙ sym (append_assoc h.before (h.first ∷ []) h.more);
  alike = alike_more R h.before done h.first y h.alike same;
  left = rw (← e) h.left;
}

-- The row ends here, and is like `done`.
pub record RowEnds {A : Type 0} (R : A → A → Type 0) (done items : List A) (a r : List ℕ) : Type 0 where
  pub same : a ≡ r
  pub alike : Alike R items done

-- After one of the row comes the sign and another, or the row ends.
pub row_goes : {A : Type 0} (P : A → List ℕ → Type 0) (sign : ℕ) (R : A → A → Type 0) (done items : List A) (a m r : List ℕ) → is_ascii_whitespace sign ≡ false
    → RowAfter P sign R done items a r → TakesPhrase (IsSign sign) a m → RowEnds R done items a r ⊎ RowLeft P sign R done items m r
row_goes {A} P sign R done items a m r black h taken = by h.more h.whole h.left
  where
    by : (more : List A) → items ≡ h.before ++ more → After P sign more a r → RowEnds R done items a r ⊎ RowLeft P sign R done items m r
    by [] whole left = inl record { same = left; alike = rw (whole ∙ append-nil h.before) h.alike }
    by (u ∷ us) whole (k, between, row) =
        let e = after_sign sign a k m black between taken in
        inr record { before = h.before; more = u ∷ us; whole = whole; alike = h.alike; left = rw (← e) row }

-- Where the row ends, the items taken are those of the row.
pub row_ends : {A : Type 0} (P : A → List ℕ → Type 0) (sign : ℕ) (R : A → A → Type 0) (done items : List A) (a r : List ℕ)
    → RowAfter P sign R done items a r → ((m : List ℕ) → TakesPhrase (IsSign sign) a m → ⊥) → RowEnds R done items a r
row_ends {A} P sign R done items a r h none = by h.more h.whole h.left
  where
    by : (more : List A) → items ≡ h.before ++ more → After P sign more a r → RowEnds R done items a r
    by [] whole left = record { same = left; alike = rw (whole ∙ append-nil h.before) h.alike }
    by (u ∷ us) whole (k, between, row) = absurd (none k between)

-- What comes after one of a row.
pub row_follows : {A : Type 0} (P : A → List ℕ → Type 0) (sign : ℕ) (passes : ℕ → Bool) (more : List A) (a r : List ℕ) → passes sign ≡ true
    → After P sign more a r → GoesOnBy passes r → GoesOnBy passes a
row_follows P sign passes [] a r pass e goes = rw e goes
row_follows P sign passes (u ∷ us) a r pass (k, between, row) goes = inr (sign, k, pass, between)

-- The next of a row in which no two have the same name has a new one.
pub row_new : (P : Named Schema → List ℕ → Type 0) (sign : ℕ) (done items : List (Named Schema)) (a r : List ℕ) → NamesDiffer items
    → (f : RowFront P sign SameNamed done items a r)
    → TakesPhrase (IsNew done P f.first) a f.rest
row_new P sign done items a r differ f =
    (f.taken.0, (alike_new f.before done (string_bytes f.first.name) f.alike (new_at f.before f.more f.first (subst NamesDiffer f.whole differ)), f.taken.1), f.taken.2)

-- What has the name v and the content c is the same as what has this name and a content of the same type.
pub named_alike : (x y : Named Schema) (c : Schema) (v : List ℕ) → string_bytes x.name ≡ v → IsCalled v c y → type_of x.content ≡ type_of c → SameNamed x y
named_alike x y c v called (text, is) same = (same ∙ ap type_of (sym is), called ∙ sym text)
