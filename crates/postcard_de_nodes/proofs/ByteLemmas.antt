-- Reading bytes after their count, as a list of trees; and lack of memory for a copy.
use Rattle.std.proofs.Common.{◌≡◌, ℕ, suc, ◌<◌, inr, List, [], ◌∷◌, ◌++◌, length, get_or}
use Rattle.std.proofs.Common.{Ok}
use Rattle.std.proofs.Common.{refl, sym, ◌∙◌, ap, subst}
use Rattle.postcard_wire.specs.declared.error.Error.{Error}
use Rattle.postcard_wire.specs.declared.error.Error.TheVariants.{DeserializeUnexpectedEnd}
use Rattle.postcard_wire.specs.declared.error.Error.TheVariants.{OutOfMemory}
use Rattle.postcard_wire.specs.Number.{SpellsNum}
use Rattle.postcard_wire.specs.Tree.{Tree, Trees, Byte, NoTrees, Then, count}
use Rattle.postcard_wire.specs.Spelling.{SpellsAll}
use Rattle.postcard_wire.specs.Reading.{IsByte, Each}
use Rattle.postcard_wire.proofs.Delimited.{same_front}
use Rattle.postcard_shape.specs.Shape.{never}
use Rattle.postcard_de_flavors.specs.Source.{Left, Takes, Laws}
use Rattle.postcard_de_nodes.specs.Reads.{IsReadError, ReadsFrom}
use Rattle.postcard_de_nodes.specs.Refuses.{RefusesFrom, WantsText}
use Rattle.postcard_de_nodes.specs.Unfit.{BadBytes}
use Rattle.postcard_shape.specs.Leaves.{Same}
use Rattle.postcard_shape.specs.Lists.{EachIs, AreRead}
use Rattle.postcard_de_nodes.specs.TakeLemmas.{faces, both_taken}
use Rattle.postcard_de_nodes.specs.ReadLemmas.{refusal}
use Rattle.postcard_de_nodes.specs.NumberLemmas.{Below, number_spelled}

-- A byte is its tree's value.
abbrev pub ByteIs : Tree → ℕ → Type 0
ByteIs t v = t ≡ Byte v

-- The trees of some bytes, one for each byte.
bytes_trees : List ℕ → Trees
bytes_trees [] = NoTrees
bytes_trees (b ∷ u) = Then (Byte b) (bytes_trees u)

-- Bytes spell their trees, and are the values of these.
trees_are : (u : List ℕ) → ((k : ℕ) → get_or u k 0 < 256) →
    (count (bytes_trees u) ≡ length u) × Each IsByte (bytes_trees u) × SpellsAll (bytes_trees u) u
    × EachIs ByteIs (bytes_trees u) u
unfolding bytes_trees
trees_are [] h = (refl, tt, refl, tt)
trees_are (b ∷ u) h =
    let k = trees_are u (λ i. h (suc i)) in
    (ap suc k.0, ((b, refl, h 0), k.1), (b ∷ [], u, refl, k.2, refl), (refl, k.3))

-- Bytes that spell trees of bytes are the values of these.
spelled_are : (ts : Trees) (r : List ℕ) → Each IsByte ts → SpellsAll ts r →
    (count ts ≡ length r) × EachIs ByteIs ts r
spelled_are NoTrees r a e = rw e (refl, tt)
spelled_are (Then t ts) r a (p, q, s, k, e) =
    let m = spelled_are ts q a.1 k in
    let one : p ≡ a.0.0 ∷ [] = rw a.0.1 at s in
    let all : r ≡ a.0.0 ∷ q = e ∙ ap (λ (l : List ℕ). l ++ q) one in
    rw all (ap suc m.0, (a.0.1, m.1))

module _ {S : Type 0} {left : S → Left} {able : S → ℕ → Type 0}
    {may_leave : S → S → Type 0} (laws : Laws left able may_leave) where
  -- If n bytes were taken, n trees of bytes were read.
  pub bytes_read : {n : ℕ} {old new : S} {u : List ℕ} → length u ≡ n →
      ((k : ℕ) → get_or u k 0 < 256) → Takes left able old u new → may_leave old new →
      ReadsFrom SpellsAll (AreRead n IsByte) (EachIs ByteIs) never left able may_leave old (Ok u) new
  bytes_read {n} {old} {new} {u} e h t l = let k = trees_are u h in record {
    gives = record {
      thing = bytes_trees u;
      front = u;
      is_read = (k.0 ∙ e, k.1);
      is_spelled = k.2;
      has = k.3;
      taken = t;
    };
    accepts = λ ts p a s c.
        let m = spelled_are ts p a.1 s in
        let f = faces t c in
        let same : u ≡ p = same_front u p f.0 f.1 (e ∙ (sym a.0 ∙ m.0)) f.2 in (
          subst (EachIs ByteIs ts) (sym same) m.1,
          subst (λ (l : List ℕ). Takes left able old l new)
              same t,
        );
    leaves = l;
    named_error = tt;
  }

  -- If n bytes can't be taken, reading n trees of bytes fails.
  pub bytes_end : {n : ℕ} {old new : S} {e : Error} → (able old n → ⊥) → may_leave old new →
      e ≡ DeserializeUnexpectedEnd → ReadsFrom SpellsAll (AreRead n IsByte) (EachIs ByteIs) never left
      able may_leave old (refusal (List ℕ) e) new
  bytes_end {n} lacks l is = record {
    gives = tt;
    accepts = λ ts p a s c. let m = spelled_are ts p a.1 s in let long : length p ≡ n =
        sym m.0 ∙ a.0 in absurd (lacks (rw long at c.enough));
    leaves = l;
    named_error = subst (IsReadError never) (sym is) tt;
  }

module _ {S : Type 0} {left : S → Left} {able : S → ℕ → Type 0}
    {may_leave : S → S → Type 0} (laws : Laws left able may_leave) {n : ℕ} {old mid : S}
    (counted : ReadsFrom (SpellsNum 64) (Below 64) Same never left able may_leave old (Ok n) mid) where
  -- If the bytes were taken and there is no memory for a copy, that is a reason to fail with
  -- `OutOfMemory`.
  pub bytes_full : {u : List ℕ} {new : S} → length u ≡ n → Takes left able mid u new →
      RefusesFrom WantsText BadBytes left able old OutOfMemory new
  bytes_full {u = u} long t = inr (record {
    front = counted.gives.front ++ u;
    taken = both_taken counted.gives.taken t;
    why = inr (
      refl,
      (
        counted.gives.front,
        u,
        subst (λ (m : ℕ). SpellsNum 64 m counted.gives.front)
            (sym long) (number_spelled laws counted),
        refl,
      ),
    );
  })
