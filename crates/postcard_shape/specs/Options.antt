-- The shapes of options and results (wire format 1.0, "option" and "newtype_variant").
use Rattle.std.proofs.Common.{sym, ◌∙◌, subst, refl, inl, inr, arith}
use Rattle.std.specs.Prelude.{Option, Some, None, Result, Ok, Err, ◌≡◌, ℕ, zero, suc, IsSomeAnd, ◌⊎◌, ⊤}
use Rattle.postcard_wire.proofs.Delimited.{none_delimited, option_delimited, variant_delimited}
use Rattle.postcard_wire.proofs.WellFormed.{option_well_formed, variant_well_formed}
use Rattle.postcard_wire.specs.Reading.{IsDelimited, ReadsWellFormed, IsOption, IsVariant}
use Rattle.postcard_wire.specs.Tree.{Tree, Variant, Absent, Present}
use Rattle.postcard_wire.specs.declared.error.Error.{Error}
use Rattle.postcard_shape.specs.Cases.{VariantIs, variant_one}
use Rattle.postcard_shape.specs.Shape.{ComesBack, HasOne, Shape, either}

-- The tree of an option: absent, or present with the tree of its value.
abbrev pub option_tree : {A : Type 0} → (A → Tree) → Option A → Tree
option_tree f None = Absent
option_tree f (Some x) = Present (f x)

-- The option is a value of the tree: `None` of an absent one, `Some` of a present one.
abbrev pub OptionIs : {V : Type 0} → (Tree → V → Type 0) → Tree → Option V → Type 0
OptionIs value t None = t ≡ Absent
OptionIs value t (Some v) = (s : Tree) × (t ≡ Present s) × value s v

-- There is a value, and it is one of the tree.
abbrev pub SomeIs : {V : Type 0} → (Tree → V → Type 0) → Tree → Option V → Type 0
SomeIs value t None = ⊥
SomeIs value t (Some v) = value t v

-- Two options look alike: both are `None`, or both are `Some` of values that look alike.
abbrev pub SameOption : {V : Type 0} → (V → V → Type 0) → Option V → Option V → Type 0
SameOption same None None = Unit {0}
SameOption same (Some v) (Some w) = same v w
SameOption same _ _ = ⊥

present_same : (s r : Tree) → Present s ≡ Present r → s ≡ r
present_same s r e = cc

absent_present : (s : Tree) → Absent ≡ Present s → ⊥
absent_present s e = cc

-- The options of one tree look alike if the values in them do.
pub option_one : {V : Type 0} (value : Tree → V → Type 0) (same : V → V → Type 0) → HasOne value same → HasOne (OptionIs value) (SameOption same)
option_one value same one t None None h k = tt
option_one value same one t None (Some w) h k = absurd (absent_present k.0 (sym h ∙ k.1))
option_one value same one t (Some v) None h k = absurd (absent_present h.0 (sym k ∙ h.1))
option_one value same one t (Some v) (Some w) h k = one h.0 v w h.2 (subst (λ s. value s w) (present_same k.0 h.0 (sym k.1 ∙ h.1)) k.2)

-- The value in an option, if there is one, fits.
abbrev pub OptionFits : {V : Type 0} → (V → Type 0) → Option V → Type 0
OptionFits fits None = ⊤
OptionFits fits (Some v) = fits v

-- An option comes back if the value in it does.
pub option_again : {V : Type 0} (tree : V → Tree) (reads : Tree → Type 0) (value : Tree → V → Type 0) (fits : V → Type 0) → ComesBack tree reads value fits →
    ComesBack (option_tree tree) (IsOption reads) (OptionIs value) (OptionFits fits)
option_again tree reads value fits again None f = (inl refl, refl)
option_again tree reads value fits again (Some v) f = let k = again v f in (inr (tree v, refl, k.0), (tree v, refl, k.1))

-- The shape of an option of a value of this shape.
abbrev pub option : {V : Type 0} → Shape V → Shape (Option V)
option s = record {
  tree = option_tree s.tree;
  refusal = λ v e. IsSomeAnd v (λ x. s.refusal x e);
  text = s.text;
  reads = IsOption s.reads;
  value = OptionIs s.value;
  same = SameOption s.same;
  other = s.other;
  fits = OptionFits s.fits;
  delimited = option_delimited s.reads s.delimited;
  well_formed = option_well_formed s.reads s.well_formed;
  one_value = option_one s.value s.same s.one_value;
  again = option_again s.tree s.reads s.value s.fits s.again;
}

-- The tree of a result: an enum with `Ok` at index 0 and `Err` at index 1.
abbrev pub result_tree : {A E : Type 0} → (A → Tree) → (E → Tree) → Result A E → Tree
result_tree f g (Ok x) = Variant 0 (f x)
result_tree f g (Err e) = Variant 1 (g e)

-- The trees of a `Result`'s content by index: those of `Ok` at 0, those of `Err` at 1, and none at
-- others.
abbrev pub ResultReads : (Tree → Type 0) → (Tree → Type 0) → ℕ → Tree → Type 0
ResultReads good bad zero t = good t
ResultReads good bad (suc zero) t = bad t
ResultReads good bad (suc (suc i)) t = ⊥

-- The values of a `Result`'s content by index: `Ok` at 0, `Err` at 1, and none at others.
abbrev pub ResultIs : {V W : Type 0} → (Tree → V → Type 0) → (Tree → W → Type 0) → ℕ → Tree → Result V W → Type 0
ResultIs good bad zero t (Ok v) = good t v
ResultIs good bad (suc zero) t (Err w) = bad t w
ResultIs good bad _ t r = ⊥

-- Two results look alike: both are `Ok` or both are `Err`, of values that look alike.
abbrev pub SameResult : {V W : Type 0} → (V → V → Type 0) → (W → W → Type 0) → Result V W → Result V W → Type 0
SameResult same other (Ok v) (Ok w) = same v w
SameResult same other (Err v) (Err w) = other v w
SameResult same other _ _ = ⊥

-- The results of one content look alike, at each index.
pub result_one : {V W : Type 0} (I : Tree → V → Type 0) (J : Tree → W → Type 0) (same : V → V → Type 0) (other : W → W → Type 0) → HasOne I same → HasOne J other → (i : ℕ) → HasOne (ResultIs I J i) (SameResult same other)
result_one I J same other one two zero t (Ok v) (Ok w) h k = one t v w h k
result_one I J same other one two zero t (Ok v) (Err w) h k = absurd k
result_one I J same other one two zero t (Err v) w h k = absurd h
result_one I J same other one two (suc zero) t (Err v) (Err w) h k = two t v w h k
result_one I J same other one two (suc zero) t (Err v) (Ok w) h k = absurd k
result_one I J same other one two (suc zero) t (Ok v) w h k = absurd h
result_one I J same other one two (suc (suc i)) t v w h k = absurd h

-- The content of a `Result` is prefix-free and well formed at each index, if that of both types is.
pub result_delimited : (R E : Tree → Type 0) → IsDelimited R → IsDelimited E → (i : ℕ) → IsDelimited (ResultReads R E i)
result_delimited R E a b zero = a
result_delimited R E a b (suc zero) = b
result_delimited R E a b (suc (suc i)) = none_delimited

pub result_well_formed : (R E : Tree → Type 0) → ReadsWellFormed R → ReadsWellFormed E → (i : ℕ) → ReadsWellFormed (ResultReads R E i)
result_well_formed R E a b zero = a
result_well_formed R E a b (suc zero) = b
result_well_formed R E a b (suc (suc i)) = λ t r. absurd r

-- The value in a result, of either variant, fits.
abbrev pub ResultFits : {V W : Type 0} → (V → Type 0) → (W → Type 0) → Result V W → Type 0
ResultFits good bad (Ok v) = good v
ResultFits good bad (Err w) = bad w

-- A result comes back if the value in it does, of either variant.
pub result_again : {V W : Type 0} (tree : V → Tree) (I : Tree → Type 0) (J : Tree → V → Type 0) (fits : V → Type 0) → ComesBack tree I J fits →
    (of : W → Tree) (K : Tree → Type 0) (L : Tree → W → Type 0) (fit : W → Type 0) → ComesBack of K L fit →
    ComesBack (result_tree tree of) (IsVariant (ResultReads I K)) (VariantIs (ResultIs J L)) (ResultFits fits fit)
result_again tree I J fits good of K L fit bad (Ok v) f = let k = good v f in ((0, tree v, refl, omega arith, k.0), (0, tree v, refl, k.1))
result_again tree I J fits good of K L fit bad (Err w) f = let k = bad w f in ((1, of w, refl, omega arith, k.0), (1, of w, refl, k.1))

-- The value in a result, of either variant, refuses itself with the error.
abbrev pub result_refusal : {V W : Type 0} → (V → Error → Type 0) → (W → Error → Type 0) → Result V W → Error → Type 0
result_refusal good bad (Ok v) = good v
result_refusal good bad (Err w) = bad w

-- The shape of a result of values of these shapes.
abbrev pub result : {V W : Type 0} → Shape V → Shape W → Shape (Result V W)
result s t = record {
  tree = result_tree s.tree t.tree;
  refusal = result_refusal s.refusal t.refusal;
  text = s.text ⊎ t.text;
  reads = IsVariant (ResultReads s.reads t.reads);
  value = VariantIs (ResultIs s.value t.value);
  same = SameResult s.same t.same;
  other = either s.other t.other;
  fits = ResultFits s.fits t.fits;
  delimited = variant_delimited _ (result_delimited s.reads t.reads s.delimited t.delimited);
  well_formed = variant_well_formed _ (result_well_formed s.reads t.reads s.well_formed t.well_formed);
  one_value = variant_one _ _ (result_one s.value t.value s.same t.same s.one_value t.one_value);
  again = result_again s.tree s.reads s.value s.fits s.again t.tree t.reads t.value t.fits t.again;
}
