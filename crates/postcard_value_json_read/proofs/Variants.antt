-- Lemmas on variants that are read from JSON.
use Rattle.std.proofs.Common.{◌≡◌, ℕ, zero, suc, ◌+◌, ◌<◌, ◌^◌, Bool, true, false, List, [], ◌∷◌, length, get_or, Option, Some, None, option_map, bytes_eq, string_bytes, Bor, refl, sym, ap, ap₂, subst, ◌∙◌, true≢false, arith, ◌⊎◌, inl, inr}
use Rattle.std.specs.Prelude.{is_some, IfSome, IfNone}
use Rattle.std.proofs.lemmas.List.{get_or_default}
use Rattle.std.proofs.lemmas.Slice.Eq.{bytes_eq-Decides}
use Rattle.postcard_wire.specs.Tree.{Tree, NoTrees}
use Rattle.postcard_wire.specs.Tree as nodes
use Rattle.postcard_schema.specs.declared.schema.Named.{Named}
use Rattle.postcard_schema.specs.declared.schema.Schema.{Schema}
use Rattle.postcard_schema.specs.Lemmas.{content_at}
use Rattle.postcard_schema.specs.Meaning.{MessageType, contents, group, no_types, choice, type_of, types_of, reads, reads_at}
use Rattle.postcard_value_text.specs.Accepted.{AreNotCalled, HasDistinctNames, NamesDiffer}
use Rattle.postcard_value_text.specs.Layout.{Layout, tuple, no_layouts, fields_of, is_unit, layout_of}
use Rattle.postcard_value_text.specs.Layout as layouts
use Rattle.postcard_value_text.proofs.Groups.{named_at}
use Rattle.serde_json.specs.declared.value.Value as json
use Rattle.serde_json.specs.Data.{Data, Members, object, string, no_members, member}
use Rattle.serde_json.specs.Events.{members_len}
use Rattle.serde_json.specs.Find.{get, get_member}
use Rattle.serde_json.specs.View.{view, members_view}
use Rattle.serde_json.proofs.Views.{Entry, member_here, member_later, get_member-put, members_len-members_view}
use Rattle.postcard_value_json.specs.Written.{alone}
use Rattle.postcard_value_json_read.specs.Reading.{Reading, IsJsonOf, IsJsonAt, IsChoiceJson, IsVariantJson}
use Rattle.postcard_value_json_read.specs.Accepted.{IsOnly, IsReading, IsContentReading, IsJsonOfVariant, IsNameIn}
use Rattle.postcard_value_json_read.proofs.Groups.{some_is}

-- ---- names

-- JSON has the name of one variant at most.
one_name : (n p : List ℕ) (d : Data) → IsNameIn n d → IsNameIn p d → n ≡ p
one_name n p d (inl a) (inl b) = cc (sym a ∙ b)
one_name n p d (inl a) (inr (f, b)) = cc (sym a ∙ b)
one_name n p d (inr (e, a)) (inl b) = cc (sym a ∙ b)
one_name n p d (inr (e, a)) (inr (f, b)) = cc (sym a ∙ b)

-- The name of the variant that is read.
variant_name : (n : List ℕ) (x : Layout) (R : Reading) (t : Tree) (d : Data) → IsVariantJson n x R t d → IsNameIn n d
variant_name n (tuple no_layouts) R t d h = inl h.1
variant_name n x R t d h = inr (h.0, h.1)

-- ---- objects with one member

-- An object with one member has no other.
pub only : (es : List Entry) (name : List ℕ) (d : Data) → length es ≡ 1 → get_member name (members_view es) ≡ Some d → object (members_view es) ≡ alone name d
only (e ∷ []) name d one found = by (bytes_eq name (string_bytes e.0)) refl
  where
    by : (b : Bool) → bytes_eq name (string_bytes e.0) ≡ b → object (members_view (e ∷ [])) ≡ alone name d
    by true eq =
        let same : name ≡ string_bytes e.0 = (bytes_eq-Decides name (string_bytes e.0)).0 eq in
        let here : view e.1 ≡ d = some_is (view e.1) d (sym (member_here name e [] same) ∙ found) in
        ap₂ alone (sym same) here
    by false eq =
        let other : name ≡ string_bytes e.0 → ⊥ = λ same. true≢false (sym ((bytes_eq-Decides name (string_bytes e.0)).1 same) ∙ eq) in
        let none : None ≡ Some d = sym (member_later name e [] other) ∙ found in
        cc none
only es name d one found = absurd (omega (arith, one))

-- An object of one member has that member.
get_alone : (name : List ℕ) (e : Data) → get name (alone name e) ≡ Some e
get_alone name e = get_member-put name e no_members

-- The member that `get` finds if there is only one.
pub member_found : (r : Option (Bor json.Value)) (name : List ℕ) (es : List Entry) (d : Data) → length es ≡ 1 → d ≡ object (members_view es) → option_map (λ v. view v.now) r ≡ get name d
    → IfSome r (λ f. d ≡ alone name (view f.now))
member_found None name es d one is found = tt
member_found (Some f) name es d one is found = is ∙ only es name (view f.now) one (sym (found ∙ ap (get name) is))

-- If no member is found, the JSON is no object with this member alone.
pub no_member : (r : Option (Bor json.Value)) (name : List ℕ) (d : Data) → option_map (λ v. view v.now) r ≡ get name d → IfNone r ((e : Data) → d ≡ alone name e → ⊥)
no_member (Some f) name d found = tt
no_member None name d found = λ e is. absurd (cc (found ∙ ap (get name) is ∙ get_alone name e))

-- If a member is found, the JSON is an object with this member alone.
pub some_found : (r : Option (Bor json.Value)) (name : List ℕ) (d : Data) → is_some r ≡ true → IfSome r (λ f. d ≡ alone name (view f.now)) → (e : Data) × (d ≡ alone name e)
some_found None name d e found = cc e
some_found (Some f) name d e found = (view f.now, found)

-- An object with other members has not one alone.
pub not_alone : (es : List Entry) (name : List ℕ) (d e : Data) → (length es ≡ 1 → ⊥) → d ≡ object (members_view es) → d ≡ alone name e → ⊥
not_alone es name d e other is has = other (sym (members_len-members_view es) ∙ same_members (members_view es) (member name e no_members) (sym is ∙ has))
  where
    same_members : (ms ns : Members) → object ms ≡ object ns → members_len ms ≡ members_len ns
    same_members ms ns eq = ap members_len (cc eq)

-- ---- contents

-- The content of a variant: the unit, or another value in an object.
pub unit_content : (n : List ℕ) (x : Layout) (R : Reading) (t : Tree) (d : Data) → is_unit x ≡ true → IsVariantJson n x R t d → (t ≡ nodes.Group NoTrees) × (d ≡ string n)
unit_content n (tuple no_layouts) R t d unit h = h
unit_content n x R t d unit h = cc unit

-- The JSON of a unit variant is its name.
content_unit : (n : List ℕ) (x : Layout) (R : Reading) (d : Data) → is_unit x ≡ true → d ≡ string n → IsVariantJson n x R (nodes.Group NoTrees) d
content_unit n (tuple no_layouts) R d unit is = (refl, is)
content_unit n x R d unit is = cc unit

-- The JSON of a variant whose content isn't the unit is an object of the name and the content.
pub other_content : (n : List ℕ) (x : Layout) (R : Reading) (t : Tree) (d : Data) → is_unit x ≡ false → IsVariantJson n x R t d → (e : Data) × (d ≡ alone n e) × R t e
other_content n (tuple no_layouts) R t d full h = cc full
other_content n x R t d full h = h

-- The JSON of another variant is an object of its name and its content.
content_other : (n : List ℕ) (x : Layout) (R : Reading) (t : Tree) (d e : Data) → is_unit x ≡ false → d ≡ alone n e → R t e → IsVariantJson n x R t d
content_other n (tuple no_layouts) R t d e full is h = cc full
content_other n x R t d e full is h = (e, is, h)

-- A string that is a variant's name denotes only that variant.
pub unit_only : (n : List ℕ) (m : MessageType) (x : Layout) (d : Data) → is_unit x ≡ true → m ≡ group no_types → d ≡ string n
    → IsOnly (HasDistinctNames x) (IsContentReading n m x) (nodes.Group NoTrees) d
unit_only n m x d unit is h = (
  (subst (λ z. reads z (nodes.Group NoTrees)) (sym is) (NoTrees, refl, refl), content_unit n x (IsJsonOf x) d unit h),
  λ names u r. (unit_content n x (IsJsonOf x) u d unit r.1).0,
)

-- Equal objects of one member have equal members.
pub same_content : (n : List ℕ) (d e : Data) → alone n d ≡ alone n e → d ≡ e
same_content n d e is = cc is

-- What is read as a content that isn't the unit is the member that was found.
pub content_from : (n : List ℕ) (m : MessageType) (x : Layout) (u : Tree) (d e : Data) → is_unit x ≡ false → d ≡ alone n e → IsContentReading n m x u d → IsReading m x u e
content_from n m x u d e full is r =
    let k = other_content n x (IsJsonOf x) u d full r.1 in
    (r.0, subst (IsJsonOf x u) (same_content n k.0 e (sym k.1 ∙ is)) k.2)

pub content_to : (n : List ℕ) (m : MessageType) (x : Layout) (u : Tree) (d e : Data) → is_unit x ≡ false → d ≡ alone n e → IsReading m x u e → IsContentReading n m x u d
content_to n m x u d e full is h = (h.0, content_other n x (IsJsonOf x) u d e full is h.1)

-- ---- variants at their index

-- The JSON is read as the content of the variant.
abbrev pub IsVariantReading : Named Schema → Reading
IsVariantReading n = IsContentReading (string_bytes n.name) (type_of n.content) (layout_of n.content)

-- The JSON of a variant, at its index.
json_at : (ns : List (Named Schema)) (i : ℕ) (n : Named Schema) (t : Tree) (d : Data) → i < length ns → n ≡ get_or ns i n → IsJsonOfVariant n t d → IsJsonAt (fields_of ns) i t d
json_at [] i n t d low is h = absurd (omega (arith, low))
json_at (m ∷ ns) zero n t d low is h = subst (λ z. IsJsonOfVariant z t d) is h
json_at (m ∷ ns) (suc i) n t d low is h = json_at ns i n t d (omega (arith, low)) is h

-- The variant that is read.
pub record VariantForm (ns : List (Named Schema)) (u : Tree) (d : Data) : Type 0 where
  pub index : ℕ
  pub content : Tree
  pub variant : Named Schema
  pub is : u ≡ nodes.Variant index content
  pub small : index < 2 ^ 32
  pub low : index < length ns
  pub here : variant ≡ get_or ns index variant
  pub read : IsVariantReading variant content d

at_form : (ns : List (Named Schema)) (i : ℕ) (t : Tree) (d : Data) → reads_at (types_of (contents ns)) i t → IsJsonAt (fields_of ns) i t d
    → (n : Named Schema) × (i < length ns) × (n ≡ get_or ns i n) × IsVariantReading n t d
at_form [] i t d r h = absurd r
at_form (n ∷ ns) zero t d r h = (n, omega arith, refl, (r, h))
at_form (n ∷ ns) (suc i) t d r h = let k = at_form ns i t d r h in (k.0, omega (arith, k.1), k.2, k.3)

-- JSON that denotes a value of an enum has the form of one of its variants.
pub variant_form : (ns : List (Named Schema)) (u : Tree) (d : Data) → IsReading (choice (types_of (contents ns))) (layouts.choice (fields_of ns)) u d → VariantForm ns u d
variant_form ns u d ((i, t, is, small, r), h) =
    let k = at_form ns i t d r (subst (λ z. IsChoiceJson (IsJsonAt (fields_of ns)) z d) is h) in
    record { index = i; content = t; variant = k.0; is = is; small = small; low = k.1; here = k.2; read = k.3 }

-- A name that no variant has isn't that of the variant at an index.
not_called_at : (name : List ℕ) (ns : List (Named Schema)) (i : ℕ) (n : Named Schema) → AreNotCalled name (fields_of ns) → i < length ns → n ≡ get_or ns i n → string_bytes n.name ≡ name → ⊥
not_called_at name [] i n none low here same = absurd (omega (arith, low))
not_called_at name (m ∷ ns) zero n none low here same = none.0 (subst (λ z. string_bytes z.name ≡ name) here same)
not_called_at name (m ∷ ns) (suc i) n none low here same = not_called_at name ns i n none.1 (omega (arith, low)) here same

-- Two variants of one name at two places.
one_before : (ns : List (Named Schema)) (i j : ℕ) (n m : Named Schema) → NamesDiffer (fields_of ns) → i < j → j < length ns
    → n ≡ get_or ns i n → m ≡ get_or ns j m → string_bytes m.name ≡ string_bytes n.name → ⊥
one_before [] i j n m differ before low here there same = absurd (omega (arith, low))
one_before (z ∷ ns) i zero n m differ before low here there same = absurd (omega (arith, before))
one_before (z ∷ ns) zero (suc j) n m differ before low here there same =
    not_called_at (string_bytes n.name) ns j m (subst (λ y. AreNotCalled (string_bytes y.name) (fields_of ns)) (sym here) differ.0) (omega (arith, low)) there same
one_before (z ∷ ns) (suc i) (suc j) n m differ before low here there same = one_before ns i j n m differ.1 (omega (arith, before)) (omega (arith, low)) here there same

-- What was found: the variant at the index has the name, and no variant before it is the JSON's.
abbrev pub IsFound : List (Named Schema) → ℕ → Data → Type 0
IsFound ns k d = k < length ns → (n : Named Schema) × (n ≡ get_or ns k n) × IsNameIn (string_bytes n.name) d

-- The JSON has the form of no variant before this index.
abbrev pub IsFirst : List (Named Schema) → ℕ → Data → Type 0
IsFirst ns k d = (j : ℕ) (n : Named Schema) → j < length ns → j < k → n ≡ get_or ns j n → (t : Tree) → IsJsonOfVariant n t d → ⊥

-- The index that was found is that of the variant that is read.
pub one_index : (ns : List (Named Schema)) (k : ℕ) (u : Tree) (d : Data) → NamesDiffer (fields_of ns) → IsFound ns k d → IsFirst ns k d → (f : VariantForm ns u d) → k ≡ f.index
one_index ns k u d differ found first f =
    let not_after : f.index < k → ⊥ = λ before. first f.index f.variant f.low before f.here f.content f.read.1 in
    let within : k < length ns = omega (arith, not_after, f.low) in
    let g = found within in
    let n = f.variant in
    let name = variant_name (string_bytes n.name) (layout_of n.content) (IsJsonOf (layout_of n.content)) f.content d f.read.1 in
    let same = one_name (string_bytes n.name) (string_bytes g.0.name) d name g.2 in
    let not_before : k < f.index → ⊥ = λ before. one_before ns k f.index g.0 n differ before f.low g.1 f.here same in
    omega (arith, not_after, not_before)

same_variant : (ns : List (Named Schema)) (i : ℕ) (n z : Named Schema) → i < length ns → n ≡ get_or ns i n → z ≡ get_or ns i z → z ≡ n
same_variant ns i n z low here there = there ∙ get_or_default ns i z n low ∙ sym here

-- What is read as a variant is read as the variant at the index that was found.
pub variant_by : (ns : List (Named Schema)) (k : ℕ) (n : Named Schema) (u : Tree) (d : Data) → k < length ns → n ≡ get_or ns k n → (f : VariantForm ns u d) → k ≡ f.index
    → IsVariantReading n f.content d
variant_by ns k n u d low here f at =
    let same : f.variant ≡ n = same_variant ns k n f.variant low here (subst (λ i. f.variant ≡ get_or ns i f.variant) (sym at) f.here) in
    subst (λ z. IsVariantReading z f.content d) same f.read

-- The variant that was read is the only one that the JSON denotes.
pub variant_only : (ns : List (Named Schema)) (k : ℕ) (n : Named Schema) (t : Tree) (d : Data) → k < 2 ^ 32 → k < length ns → n ≡ get_or ns k n → IsFound ns k d → IsFirst ns k d
    → IsOnly (HasDistinctNames (layout_of n.content)) (IsVariantReading n) t d
    → IsOnly (HasDistinctNames (layouts.choice (fields_of ns))) (IsReading (choice (types_of (contents ns))) (layouts.choice (fields_of ns))) (nodes.Variant k t) d
variant_only ns k n t d small low here found first (h, one) = (
  ((k, t, refl, small, subst (λ R. R t) (sym (content_at ns k n low here)) h.0), json_at ns k n t d low here h.1),
  λ names u r.
      let f = variant_form ns u d r in
      let at : k ≡ f.index = one_index ns k u d names.0 found first f in
      let content : f.content ≡ t = one (named_at ns k n low here names.1).1 f.content (variant_by ns k n u d low here f at) in
      f.is ∙ ap₂ nodes.Variant (sym at) content,
)

-- An index below `i + 1` is below `i`, or is `i`.
below_or_at : (k i : ℕ) → k < i + 1 → (k < i) ⊎ (k ≡ i)
below_or_at k i low = grind (arith, low)

-- If the JSON has the form of no variant before index i, nor of variant i, it has that of none before i + 1.
pub none_more : (d : Data) (ns : List (Named Schema)) (i : ℕ) (x : Named Schema) → i < length ns
    → ((k : ℕ) (n : Named Schema) → k < i → n ≡ get_or ns k n → (t : Tree) → IsJsonOfVariant n t d → ⊥)
    → x ≡ get_or ns i x → ((t : Tree) → IsJsonOfVariant x t d → ⊥)
    → (k : ℕ) (n : Named Schema) → k < i + 1 → n ≡ get_or ns k n → (t : Tree) → IsJsonOfVariant n t d → ⊥
none_more d ns i x within before here none k n low is = elim (below_or_at k i low) [
  | inl less ↦ before k n less is
  | inr same ↦
      let one : x ≡ n = same_variant ns i n x within (subst (λ j. n ≡ get_or ns j n) same is) here in
      subst (λ z. (t : Tree) → IsJsonOfVariant z t d → ⊥) one none
]
