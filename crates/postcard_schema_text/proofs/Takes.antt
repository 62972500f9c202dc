-- If the phrases of a type are taken from the text one after another, the type is taken. There is a lemma for each kind of type.
-- Signs are bytes: 44 is `,`, 58 `:`, 59 `;`, 63 `?`, 93 `]`, 124 `|`, 125 `}`.
use Rattle.std.proofs.Common.{◌≡◌, ℕ, suc, ◌<◌, ◌≤◌, Bool, true, false, List, [], length, Vec, Box, refl, sym, ◌⊎◌, inl, inr}
use Rattle.std.specs.declared.alloc.Global.{Global}
use Rattle.postcard_schema.specs.declared.schema.Named.{Named}
use Rattle.postcard_schema.specs.declared.schema.Schema.{Schema}
use Rattle.postcard_schema.specs.declared.schema.Schema.TheVariants.{Option, Seq, Array, Tuple, Struct, Enum}
use Rattle.postcard_schema.specs.Meaning.{has_bytes, type_of}
use Rattle.postcard_schema_text.specs.Text.{Then, TakesPhrase, IsSign, IsMaybe, IsWord, IsIdentifier, IsVariantName, IsCount}
use Rattle.postcard_schema_text.specs.Grammar.{Separated, IsListRest, IsTupleEnd, IsTupleRest, IsField, IsFieldsRest, IsReferred, IsOptions, IsContent, IsVariantText, IsLead, IsEnumText, IsType}
use Rattle.postcard_schema_text.specs.Phrases.{takes_two, takes_as}
use Rattle.postcard_schema_text.specs.Names.{IsCalled, NamesDiffer}

-- Taking an enum takes a type.
pub type_enum : (d e : ℕ) (s : Schema) (a c : List ℕ) → d ≡ suc e → TakesPhrase (IsEnumText (IsType e) s) a c → TakesPhrase (IsType d s) a c
unfolding IsType
type_enum d e s a c deep (x, h, g) = rw deep (x, inl h, g)

-- Taking a type that is no enum and up to four `?` takes a type.
pub type_options : (d e n : ℕ) (s : Schema) (a c : List ℕ) → d ≡ suc e → n ≤ 4 → TakesPhrase (IsOptions n (IsReferred (IsType e)) s) a c → TakesPhrase (IsType d s) a c
unfolding IsType
type_options d e n s a c deep few (x, h, g) = rw deep (x, inr (n, few, h), g)

-- Taking one more `?` takes one more option.
pub options_more : (P : Schema → List ℕ → Type 0) (n m : ℕ) (s : Schema) (held : Box Schema Global) (a b c : List ℕ) → m ≡ suc n → held.value ≡ s
    → TakesPhrase (IsOptions n P s) a b → TakesPhrase (IsSign 63) b c → TakesPhrase (IsOptions m P (Option held)) a c
options_more P n m s held a b c next is options sign =
    rw next (takes_as _ _ a c (λ t h. (held, refl, rw is h)) (takes_two (IsOptions n P s) (IsSign 63) a b c options sign))

-- Taking a `|`, or nothing before two variants or more, takes what may stand before variants.
lead_takes : (n : ℕ) (leads : Bool) (a b : List ℕ) → ((leads ≡ true) ⊎ (1 < n)) → (leads ≡ true → TakesPhrase (IsSign 124) a b)
    → (leads ≡ false → b ≡ a) → TakesPhrase (IsLead n) a b
lead_takes n true a b many given none = takes_as (IsSign 124) (IsLead n) a b (λ t h. inl h) (given refl)
lead_takes n false a b (inl h) given none = cc h
lead_takes n false a b (inr many) given none = ([], inr (many, refl), sym (none refl))

-- Taking what may stand before variants and then the variants takes an enum.
pub enum_takes : (T : Schema → List ℕ → Type 0) (v : Vec (Named Schema) Global) (leads : Bool) (a b c : List ℕ)
    → (leads ≡ true → TakesPhrase (IsSign 124) a b) → (leads ≡ false → b ≡ a) → ((leads ≡ true) ⊎ (1 < length v.items))
    → NamesDiffer v.items → TakesPhrase (Separated (IsVariantText T) 124 v.items) b c → TakesPhrase (IsEnumText T (Enum v)) a c
enum_takes T v leads a b c given none many differ row =
    takes_as (Then (IsLead (length v.items)) (Separated (IsVariantText T) 124 v.items)) (IsEnumText T (Enum v)) a c (λ t h. (v, refl, differ, h))
    (takes_two (IsLead (length v.items)) (Separated (IsVariantText T) 124 v.items) a b c (lead_takes (length v.items) leads a b many given none) row)

-- Taking a `,` or nothing takes what may stand after the last field.
pub maybe_takes : (sign : ℕ) (given : Bool) (a b : List ℕ) → (given ≡ true → TakesPhrase (IsSign sign) a b) → (given ≡ false → b ≡ a) → TakesPhrase (IsMaybe sign) a b
maybe_takes sign true a b taken left = takes_as (IsSign sign) (IsMaybe sign) a b (λ t h. inr h) (taken refl)
maybe_takes sign false a b taken left = ([], inl refl, sym (left refl))

-- Taking the fields, a comma or none, and `}` takes what follows the `{` of a struct.
pub fields_take : (T : Schema → List ℕ → Type 0) (v : Vec (Named Schema) Global) (a b c d : List ℕ)
    → NamesDiffer v.items → TakesPhrase (Separated (IsField T) 44 v.items) a b → TakesPhrase (IsMaybe 44) b c → TakesPhrase (IsSign 125) c d → TakesPhrase (IsFieldsRest T (Struct v)) a d
fields_take T v a b c d differ row comma close =
    takes_as _ _ a d (λ t h. (v, refl, differ, h)) (takes_two (Separated (IsField T) 44 v.items) (Then (IsMaybe 44) (IsSign 125)) a b d row (takes_two (IsMaybe 44) (IsSign 125) b c d comma close))

-- Taking a name, `:` and a type takes a field.
pub field_takes : (T : Schema → List ℕ → Type 0) (n : Named Schema) (s : Schema) (name a c d e : List ℕ) → TakesPhrase (IsWord name) a c
    → TakesPhrase (IsSign 58) c d → TakesPhrase (T s) d e → IsCalled name s n → IsIdentifier name → TakesPhrase (IsField T n) a e
field_takes T n s name a c d e word colon content (text, is) named =
    takes_as _ _ a e (λ t h. (rw text named, rw (text, is) h))
    (takes_two (IsWord name) (Then (IsSign 58) (T s)) a c e word (takes_two (IsSign 58) (T s) c d e colon content))

-- Taking a name and a content takes a variant.
pub variant_takes : (T : Schema → List ℕ → Type 0) (n : Named Schema) (s : Schema) (name a c d : List ℕ) → TakesPhrase (IsWord name) a c
    → TakesPhrase (IsContent T s) c d → IsCalled name s n → IsVariantName name → TakesPhrase (IsVariantText T n) a d
variant_takes T n s name a c d word content (text, is) named =
    takes_as _ _ a d (λ t h. (rw text named, rw (text, is) h)) (takes_two (IsWord name) (IsContent T s) a c d word content)

-- Taking an element type with bytes and `]` takes what follows the `[` of a list.
pub seq_takes : (d : ℕ) (s : Schema) (held : Box Schema Global) (a c e : List ℕ) → TakesPhrase (IsType d s) a c → held.value ≡ s
    → has_bytes (type_of s) ≡ true → TakesPhrase (IsSign 93) c e → TakesPhrase (IsListRest (IsType d) (Seq held)) a e
seq_takes d s held a c e element is full close =
    takes_as _ _ a e (λ t h. inl (held, refl, rw is full, rw is h)) (takes_two (IsType d s) (IsSign 93) a c e element close)

-- Taking an element type with bytes, `;`, a count and `]` takes what follows the `[` of an array.
pub array_takes : (d n : ℕ) (s : Schema) (held : Box Schema Global) (a c e f g : List ℕ) → TakesPhrase (IsType d s) a c → held.value ≡ s
    → has_bytes (type_of s) ≡ true → TakesPhrase (IsSign 59) c e → TakesPhrase (IsCount n) e f → TakesPhrase (IsSign 93) f g → TakesPhrase (IsListRest (IsType d) (Array held n)) a g
array_takes d n s held a c e f g element is full semicolon count close =
    takes_as _ _ a g (λ t h. inr (held, n, refl, rw is full, rw is h)) (takes_two (IsType d s) (Then (IsSign 59) (Then (IsCount n) (IsSign 93))) a c g
    element (takes_two (IsSign 59) (Then (IsCount n) (IsSign 93)) c e g semicolon (takes_two (IsCount n) (IsSign 93) e f g count close)))

-- Taking the parts and the end of a tuple takes what follows the `(` of a tuple.
pub tuple_takes : (T : Schema → List ℕ → Type 0) (v : Vec Schema Global) (a b c : List ℕ) → TakesPhrase (Separated T 44 v.items) a b
    → TakesPhrase (IsTupleEnd (length v.items)) b c
    → TakesPhrase (IsTupleRest T (Tuple v)) a c
tuple_takes T v a b c row end =
    takes_as _ _ a c (λ t h. inr (inr (v, refl, h))) (takes_two (Separated T 44 v.items) (IsTupleEnd (length v.items)) a b c row end)
