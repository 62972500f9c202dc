-- The shapes of parts in a row: tuples and structs (wire format 1.0, "tuple" and "struct").
use Rattle.std.proofs.Common.{sym, ◌∙◌, subst, refl}
use Rattle.std.specs.Prelude.{◌≡◌, ◌⊎◌, ⊤}
use Rattle.postcard_wire.proofs.Delimited.{end_delimited, then_delimited, group_delimited}
use Rattle.postcard_wire.proofs.WellFormed.{end_well_formed, then_well_formed, group_well_formed}
use Rattle.postcard_wire.specs.Reading.{IsEnd, IsThen, IsGroup, AreDelimited, PartsWellFormed}
use Rattle.postcard_wire.specs.Tree.{Tree, Group, Then, NoTrees, Trees}
use Rattle.postcard_wire.specs.declared.error.Error.{Error}
use Rattle.postcard_shape.specs.Shape.{ComesBack, HasOne, Shape, never, either}

-- The tree of two values one after the other, with no count before them.
abbrev pub pair_tree : Tree → Tree → Tree
pair_tree s t = Group (Then s (Then t NoTrees))

first_same : (s r : Tree) (ss rs : Trees) → Then s ss ≡ Then r rs → s ≡ r
first_same s r ss rs e = cc

rest_same : (s r : Tree) (ss rs : Trees) → Then s ss ≡ Then r rs → ss ≡ rs
rest_same s r ss rs e = cc

group_same : (ts ss : Trees) → Group ts ≡ Group ss → ts ≡ ss
group_same ts ss e = cc

-- The empty row has one value.
pub end_one : (ts : Trees) → IsEnd ts → IsEnd ts → Unit {0}
end_one ts h k = tt

-- A row looks alike if its first part and those after it do.
pub then_one : {V : Type 0} {I : Tree → V → Type 0} {same : V → V → Type 0} {v w : V} {K L : Trees → Type 0} {Z : Type 0} → HasOne I same → ((ts : Trees) → K ts → L ts → Z) → (ts : Trees) → IsThen (λ t. I t v) K ts → IsThen (λ t. I t w) L ts → same v w × Z
then_one {I = I} {v = v} {w = w} {L = L} one rest ts (s, ss, e, a, b) (r, rs, f, c, d) =
    let x = first_same r s rs ss (sym f ∙ e) in
    let y = rest_same r s rs ss (sym f ∙ e) in
    (one s v w a (subst (λ t. I t w) x c), rest ss b (subst L y d))

-- A tuple or a struct looks alike if its parts do.
pub group_one : {K L : Trees → Type 0} {Z : Type 0} → ((ts : Trees) → K ts → L ts → Z) → (t : Tree) → IsGroup K t → IsGroup L t → Z
group_one {L = L} one t (ts, e, a) (ss, f, b) = one ts a (subst L (group_same ss ts (sym f ∙ e)) b)

-- What the law `again` says of parts in a row.
abbrev pub ComeBack : {V : Type 0} → (V → Trees) → (Trees → Type 0) → (V → Trees → Type 0) → (V → Type 0) → Type 0
ComeBack {V} trees reads value fits = (v : V) → fits v → reads (trees v) × value v (trees v)

-- A first part and those after it come back, each by its own law.
pub then_again : {A B : Type 0} (tree : A → Tree) (I : Tree → Type 0) (J : Tree → A → Type 0) (fits : A → Type 0) → ComesBack tree I J fits →
    (trees : B → Trees) (K : Trees → Type 0) (L : B → Trees → Type 0) (fit : B → Type 0) → ComeBack trees K L fit →
    (v : A × B) → fits v.0 × fit v.1 → IsThen I K (Then (tree v.0) (trees v.1)) × IsThen (λ t. J t v.0) (L v.1) (Then (tree v.0) (trees v.1))
then_again tree I J fits first trees K L fit rest v f =
    let k = first v.0 f.0 in
    let m = rest v.1 f.1 in
    ((tree v.0, trees v.1, refl, k.0, m.0), (tree v.0, trees v.1, refl, k.1, m.1))

-- A tuple or a struct comes back if its parts do.
pub group_again : {V : Type 0} (trees : V → Trees) (K : Trees → Type 0) (L : V → Trees → Type 0) (fits : V → Type 0) → ComeBack trees K L fits →
    ComesBack (λ v. Group (trees v)) (IsGroup K) (λ t v. IsGroup (L v) t) fits
group_again trees K L fits parts v f = let k = parts v f in ((trees v, refl, k.0), (trees v, refl, k.1))

-- What a `Shape` says, said of parts in a row: the trees of the parts, in order, and the laws that
-- tie them.
pub record Row (V : Type 0) : Type 1 where
  pub trees : V → Trees
  pub refusal : V → Error → Type 0
  pub text : Type 0
  pub reads : Trees → Type 0
  pub value : V → Trees → Type 0
  pub same : V → V → Type 0
  pub other : Error → Type 0
  pub fits : V → Type 0
  pub delimited : AreDelimited reads
  pub well_formed : PartsWellFormed reads
  pub one_value : (v w : V) (ts : Trees) → value v ts → value w ts → same v w
  pub again : ComeBack trees reads value fits

-- The row of no parts.
abbrev pub none : {V : Type 0} → Row V
none {V} = record {
  trees = λ v. NoTrees;
  refusal = λ v. never;
  text = ⊥;
  reads = IsEnd;
  value = λ v. IsEnd;
  same = λ v w. Unit {0};
  other = never;
  fits = λ v. ⊤;
  delimited = end_delimited;
  well_formed = end_well_formed;
  one_value = λ v w. end_one;
  again = λ v f. (refl, refl);
}

-- The same, as the end of a row of parts.
abbrev pub no_part : Row (Unit {0})
no_part = none

-- A part of the shape s, followed by the parts r.
abbrev pub then : {A B : Type 0} → Shape A → Row B → Row (A × B)
then s r = record {
  trees = λ v. Then (s.tree v.0) (r.trees v.1);
  refusal = λ v e. s.refusal v.0 e ⊎ r.refusal v.1 e;
  text = s.text ⊎ r.text;
  reads = IsThen s.reads r.reads;
  value = λ v. IsThen (λ t. s.value t v.0) (r.value v.1);
  same = λ v w. s.same v.0 w.0 × r.same v.1 w.1;
  other = either s.other r.other;
  fits = λ v. s.fits v.0 × r.fits v.1;
  delimited = then_delimited s.reads r.reads s.delimited r.delimited;
  well_formed = then_well_formed s.reads r.reads s.well_formed r.well_formed;
  one_value = λ v w. then_one s.one_value (r.one_value v.1 w.1);
  again = then_again s.tree s.reads s.value s.fits s.again r.trees r.reads r.value r.fits r.again;
}

-- The row r, for a type whose values are seen as those of r by `see`.
abbrev pub along : {V W : Type 0} → (V → W) → Row W → Row V
along see r = record {
  trees = λ v. r.trees (see v);
  refusal = λ v. r.refusal (see v);
  text = r.text;
  reads = r.reads;
  value = λ v. r.value (see v);
  same = λ v w. r.same (see v) (see w);
  other = r.other;
  fits = λ v. r.fits (see v);
  delimited = r.delimited;
  well_formed = r.well_formed;
  one_value = λ v w. r.one_value (see v) (see w);
  again = λ v. r.again (see v);
}

-- The shape of a tuple or a struct of these parts.
abbrev pub group : {V : Type 0} → Row V → Shape V
group r = record {
  tree = λ v. Group (r.trees v);
  refusal = r.refusal;
  text = r.text;
  reads = IsGroup r.reads;
  value = λ t v. IsGroup (r.value v) t;
  same = r.same;
  other = r.other;
  fits = r.fits;
  delimited = group_delimited r.reads r.delimited;
  well_formed = group_well_formed r.reads r.well_formed;
  one_value = λ t v w. group_one (r.one_value v w) t;
  again = group_again r.trees r.reads r.value r.fits r.again;
}
