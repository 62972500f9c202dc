-- Every set of trees that a type reads has well-formed trees only, so what is written is read
-- again.
use Rattle.std.proofs.Common.{◌≡◌, ℕ, inl, inr, List, ◌++◌, sym, ap, ◌∙◌}
use Rattle.std.proofs.lemmas.List.{append_cancel_left}
use Rattle.postcard_wire.specs.Reading.{IsDelimited, ReadsWellFormed, PartsWellFormed, IsByte, IsBoolean, IsNum, IsInt, IsChar, IsText, IsOption, IsEnd, IsThen, IsGroup, Each, IsSeq, IsVariant, IsArray}
use Rattle.postcard_wire.specs.Spelling.{Spells, canonical}
use Rattle.postcard_wire.specs.Tree.{Tree, Trees, NoTrees, Then, IsWidth, AreWellFormed}
use Rattle.postcard_wire.proofs.Shortest.{Spells-canonical}

-- Bytes are well formed.
pub byte_well_formed : ReadsWellFormed IsByte
byte_well_formed t r = rw r.1 r.2

-- Truth values are well formed.
pub boolean_well_formed : ReadsWellFormed IsBoolean
boolean_well_formed t r = rw r.1 tt

-- Unsigned numbers of each width are well formed.
pub num_well_formed : (w : ℕ) → IsWidth w → ReadsWellFormed (IsNum w)
num_well_formed w wide t r = rw r.1 (wide, r.2)

-- Signed numbers of each width are well formed.
pub int_well_formed : (w : ℕ) → IsWidth w → ReadsWellFormed (IsInt w)
int_well_formed w wide t r = rw r.1 (wide, r.2)

-- Characters are well formed.
pub char_well_formed : ReadsWellFormed IsChar
char_well_formed t r = rw r.1 r.2

-- Texts are well formed.
pub text_well_formed : ReadsWellFormed IsText
text_well_formed t r = rw r.1 (r.2, r.3)

-- Options are well formed if what they hold is.
pub option_well_formed : (reads : Tree → Type 0) → ReadsWellFormed reads → ReadsWellFormed (IsOption reads)
option_well_formed reads law t (inl r) = rw r tt
option_well_formed reads law t (inr r) = rw r.1 (law r.0 r.2)

-- The empty row is well formed.
pub end_well_formed : PartsWellFormed IsEnd
end_well_formed ts r = rw r tt

-- A part followed by others is well formed if the part and the others are.
pub then_well_formed : (first : Tree → Type 0) (rest : Trees → Type 0) → ReadsWellFormed first → PartsWellFormed rest → PartsWellFormed (IsThen first rest)
then_well_formed first rest one all ts r = rw r.2 (one r.0 r.3, all r.1 r.4)

-- Groups are well formed if their parts are.
pub group_well_formed : (parts : Trees → Type 0) → PartsWellFormed parts → ReadsWellFormed (IsGroup parts)
group_well_formed parts law t r = rw r.1 (law r.0 r.2)

-- A row is well formed if its trees are all of a set of well-formed trees.
pub each_well_formed : (reads : Tree → Type 0) → ReadsWellFormed reads → (ts : Trees) → Each reads ts → AreWellFormed ts
each_well_formed reads law NoTrees e = tt
each_well_formed reads law (Then t ts) e = (law t e.0, each_well_formed reads law ts e.1)

-- Lists are well formed if their elements are.
pub seq_well_formed : (reads : Tree → Type 0) → ReadsWellFormed reads → ReadsWellFormed (IsSeq reads)
seq_well_formed reads law t r = rw r.1 (r.2, each_well_formed reads law r.0 r.3)

-- Arrays are well formed if their elements are.
pub array_well_formed : (n : ℕ) (reads : Tree → Type 0) → ReadsWellFormed reads → ReadsWellFormed (IsArray n reads)
array_well_formed n reads law t r = rw r.1 (each_well_formed reads law r.0 r.3)

-- Enums are well formed if the content at each index is.
pub variant_well_formed : (content : ℕ → Tree → Type 0) → ((i : ℕ) → ReadsWellFormed (content i)) → ReadsWellFormed (IsVariant content)
variant_well_formed content law t r = rw r.2 (r.3, law r.0 r.1 r.4)

-- A subset of a set of well-formed trees has well-formed trees only.
pub fewer_well_formed : (few all : Tree → Type 0) → ((t : Tree) → few t → all t) → ReadsWellFormed all → ReadsWellFormed few
fewer_well_formed few all inside law t r = law t (inside t r)

-- If bytes begin with the shortest spelling of a tree of the set, no other front of them spells a
-- tree of the set.
pub read_again : (reads : Tree → Type 0) → IsDelimited reads → ReadsWellFormed reads → (t s : Tree) (p rest left : List ℕ)
    → reads t → reads s → Spells s p → p ++ left ≡ canonical t ++ rest → (p ≡ canonical t) × (s ≡ t) × (left ≡ rest)
read_again reads law wf t s p rest left r k sp e =
    let d = law s t p (canonical t) left rest k r sp (Spells-canonical t (wf t r)) e in
    (d.0, d.1, append_cancel_left (canonical t) left rest (ap (λ (l : List ℕ). l ++ left) (sym d.0) ∙ e))
