-- The shape of an enum, from the shapes of its variants' contents: each variant is an index and a
-- content (wire format 1.0, "newtype_variant", "tuple_variant" and "struct_variant").
use Rattle.std.proofs.Common.{sym, ◌∙◌, subst, refl}
use Rattle.std.specs.Prelude.{◌≡◌, ℕ, zero, suc, ◌<◌, ◌^◌, ◌⊎◌}
use Rattle.postcard_wire.proofs.Delimited.{variant_delimited, none_delimited}
use Rattle.postcard_wire.proofs.WellFormed.{variant_well_formed}
use Rattle.postcard_wire.specs.Reading.{IsDelimited, ReadsWellFormed, IsVariant}
use Rattle.postcard_wire.specs.Tree.{Tree, Variant, Absent}
use Rattle.postcard_wire.specs.declared.error.Error.{Error}
use Rattle.postcard_shape.specs.Shape.{ComesBack, HasOne, Shape, never, either}
use Rattle.postcard_shape.specs.declared.cases.Case.{Case}
use Rattle.postcard_shape.specs.declared.cases.Case.TheVariants.{This, Next}

-- The value is one of the content, at the index of the tree.
abbrev pub VariantIs : {V : Type 0} → (ℕ → Tree → V → Type 0) → Tree → V → Type 0
VariantIs values t v = (i : ℕ) × (s : Tree) × (t ≡ Variant i s) × values i s v

index_same : (i j : ℕ) (s r : Tree) → Variant i s ≡ Variant j r → i ≡ j
index_same i j s r e = cc

content_same : (i j : ℕ) (s r : Tree) → Variant i s ≡ Variant j r → s ≡ r
content_same i j s r e = cc

-- The enums of one tree look alike if the values of one content do at each index.
pub variant_one : {V : Type 0} (values : ℕ → Tree → V → Type 0) (same : V → V → Type 0) → ((i : ℕ) → HasOne (values i) same) → HasOne (VariantIs values) same
variant_one values same one t v w h k =
    let e = sym k.2 ∙ h.2 in
    let a : values h.0 k.1 w = subst (λ i. values i k.1 w) (index_same k.0 h.0 k.1 h.1 e) k.3 in
    one h.0 h.1 v w h.3 (subst (λ s. values h.0 s w) (content_same k.0 h.0 k.1 h.1 e) a)

-- What the law `again` says of the variants of an enum.
abbrev pub VariantsComeBack : {V : Type 0} → (V → ℕ) → (V → Tree) → (ℕ → Tree → Type 0) → (ℕ → Tree → V → Type 0) → (V → Type 0) → Type 0
VariantsComeBack {V} index content reads value fits = (v : V) → fits v → reads (index v) (content v) × value (index v) (content v) v

-- What a `Shape` says, said of the variants of an enum: the index and the content of each value,
-- and at each index what is read.
pub record Cases (V : Type 0) : Type 1 where
  pub index : V → ℕ
  pub content : V → Tree
  pub refusal : V → Error → Type 0
  pub text : Type 0
  pub reads : ℕ → Tree → Type 0
  pub value : ℕ → Tree → V → Type 0
  pub same : V → V → Type 0
  pub other : Error → Type 0
  pub fits : V → Type 0
  pub delimited : (i : ℕ) → IsDelimited (reads i)
  pub well_formed : (i : ℕ) → ReadsWellFormed (reads i)
  pub one_value : (i : ℕ) → HasOne (value i) same
  pub again : VariantsComeBack index content reads value fits

-- The row of no variants.
abbrev pub no_case : {V : Type 0} → Cases V
no_case {V} = record {
  index = λ v. 0;
  content = λ v. Absent;
  refusal = λ v. never;
  text = ⊥;
  reads = λ i t. ⊥;
  value = λ i t v. ⊥;
  same = λ v w. Unit {0};
  other = never;
  fits = λ v. ⊥;
  delimited = λ i. none_delimited;
  well_formed = λ i t r. absurd r;
  one_value = λ i t v w h k. absurd h;
  again = λ v f. absurd f;
}

abbrev pub case_index : {A R : Type 0} → (R → ℕ) → Case A R → ℕ
case_index f (This a) = 0
case_index f (Next r) = suc (f r)

abbrev pub case_of {ℓ} : {A R : Type 0} {Z : Type ℓ} → (A → Z) → (R → Z) → Case A R → Z
case_of f g (This a) = f a
case_of f g (Next r) = g r

abbrev pub case_reads : (Tree → Type 0) → (ℕ → Tree → Type 0) → ℕ → Tree → Type 0
case_reads s r zero = s
case_reads s r (suc i) = r i

abbrev pub case_value : {A R : Type 0} → (Tree → A → Type 0) → (ℕ → Tree → R → Type 0) → ℕ → Tree → Case A R → Type 0
case_value s r zero t (This a) = s t a
case_value s r zero t (Next v) = ⊥
case_value s r (suc i) t (This a) = ⊥
case_value s r (suc i) t (Next v) = r i t v

abbrev pub case_same : {A R : Type 0} → (A → A → Type 0) → (R → R → Type 0) → Case A R → Case A R → Type 0
case_same s r (This a) (This b) = s a b
case_same s r (Next v) (Next w) = r v w
case_same s r _ _ = ⊥

pub case_delimited : (s : Tree → Type 0) (r : ℕ → Tree → Type 0) → IsDelimited s → ((i : ℕ) → IsDelimited (r i)) → (i : ℕ) → IsDelimited (case_reads s r i)
case_delimited s r a b zero = a
case_delimited s r a b (suc i) = b i

pub case_well_formed : (s : Tree → Type 0) (r : ℕ → Tree → Type 0) → ReadsWellFormed s → ((i : ℕ) → ReadsWellFormed (r i)) → (i : ℕ) → ReadsWellFormed (case_reads s r i)
case_well_formed s r a b zero = a
case_well_formed s r a b (suc i) = b i

pub case_one : {A R : Type 0} (s : Tree → A → Type 0) (r : ℕ → Tree → R → Type 0) (same : A → A → Type 0) (other : R → R → Type 0) → HasOne s same → ((i : ℕ) → HasOne (r i) other) → (i : ℕ) → HasOne (case_value s r i) (case_same same other)
case_one s r same other one two zero t (This a) (This b) h k = one t a b h k
case_one s r same other one two zero t (This a) (Next w) h k = absurd k
case_one s r same other one two zero t (Next v) w h k = absurd h
case_one s r same other one two (suc i) t (Next v) (Next w) h k = two i t v w h k
case_one s r same other one two (suc i) t (Next v) (This b) h k = absurd k
case_one s r same other one two (suc i) t (This a) w h k = absurd h

-- The content of a variant comes back, or that of one of the others does.
pub case_again : {A R : Type 0} (tree : A → Tree) (I : Tree → Type 0) (J : Tree → A → Type 0) (fits : A → Type 0) → ComesBack tree I J fits →
    (index : R → ℕ) (content : R → Tree) (K : ℕ → Tree → Type 0) (L : ℕ → Tree → R → Type 0) (fit : R → Type 0) → VariantsComeBack index content K L fit →
    VariantsComeBack (case_index index) (case_of tree content) (case_reads I K) (case_value J L) (case_of fits fit)
case_again tree I J fits first index content K L fit rest (This a) f = first a f
case_again tree I J fits first index content K L fit rest (Next v) f = rest v f

-- A variant of the shape s, followed by the variants r, whose indices are one higher here.
abbrev pub case : {A R : Type 0} → Shape A → Cases R → Cases (Case A R)
case s r = record {
  index = case_index r.index;
  content = case_of s.tree r.content;
  refusal = case_of s.refusal r.refusal;
  text = s.text ⊎ r.text;
  reads = case_reads s.reads r.reads;
  value = case_value s.value r.value;
  same = case_same s.same r.same;
  other = either s.other r.other;
  fits = case_of s.fits r.fits;
  delimited = case_delimited s.reads r.reads s.delimited r.delimited;
  well_formed = case_well_formed s.reads r.reads s.well_formed r.well_formed;
  one_value = case_one s.value r.value s.same r.same s.one_value r.one_value;
  again = case_again s.tree s.reads s.value s.fits s.again r.index r.content r.reads r.value r.fits r.again;
}

-- An enum comes back if the contents of its variants do.
pub variants_again : {V : Type 0} (index : V → ℕ) (content : V → Tree) (K : ℕ → Tree → Type 0) (L : ℕ → Tree → V → Type 0) (fits : V → Type 0) → VariantsComeBack index content K L fits →
    ComesBack (λ v. Variant (index v) (content v)) (IsVariant K) (VariantIs L) (λ v. (index v < 2 ^ 32) × fits v)
variants_again index content K L fits again v f = let k = again v f.1 in ((index v, content v, refl, f.0, k.0), (index v, content v, refl, k.1))

-- The shape of an enum of these variants.
abbrev pub variants : {V : Type 0} → Cases V → Shape V
variants c = record {
  tree = λ v. Variant (c.index v) (c.content v);
  refusal = c.refusal;
  text = c.text;
  reads = IsVariant c.reads;
  value = VariantIs c.value;
  same = c.same;
  other = c.other;
  fits = λ v. (c.index v < 2 ^ 32) × c.fits v;
  delimited = variant_delimited c.reads c.delimited;
  well_formed = variant_well_formed c.reads c.well_formed;
  one_value = variant_one c.value c.same c.one_value;
  again = variants_again c.index c.content c.reads c.value c.fits c.again;
}
