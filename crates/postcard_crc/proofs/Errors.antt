-- Which fault of a message has which error.
use Rattle.std.proofs.Common.{◌≡◌, ℕ, ◌<◌, ◌≤◌, List, ◌++◌, length, inl, inr, sym, subst, ◌∙◌, ⊎_elim}
use Rattle.std.proofs.lemmas.Bool.{cases_lt}
use Rattle.crc.specs.Crc.{Parameters, IsCrc, IsSound}
use Rattle.crc.specs.Digest.{Progress, Took}
use Rattle.crc.specs.Checked.{low_bytes}
use Rattle.postcard_wire.specs.Tree.{Tree}
use Rattle.postcard_wire.specs.Spelling.{Spells}
use Rattle.postcard_wire.specs.declared.error.Error.{Error}
use Rattle.postcard_wire.specs.declared.error.Error.TheVariants.{DeserializeUnexpectedEnd, DeserializeBadCrc, OutOfMemory}
use Rattle.postcard_de.specs.Reads.{IsReadError}
use Rattle.postcard_crc.specs.Reading.{IsFaultless, IsFaultOf}

module _ (reads : Tree → Type 0) (grows : Type 0) (k : ℕ) (d : Progress) (bytes : List ℕ) where
  -- No value could be read: if there is one, an allocation failed.
  pub of_value : (others : Error → Type 0) (e : Error)
      → ((t : Tree) (front rest : List ℕ) → reads t → Spells t front → bytes ≡ front ++ rest → (e ≡ OutOfMemory) × grows)
      → IsReadError others e → IsFaultOf reads grows k d bytes e
  of_value others e accepts named = record {
    short = λ s. inr (accepts s.tree s.front s.rest s.is_read s.is_spelled s.joins);
    only_short = λ is t front rest r s j. let no = (accepts t front rest r s j).0 in absurd (cc);
    other = λ a m took o. inr (accepts o.tree o.front o.rest o.is_read o.is_spelled o.joins);
    only_other = λ is a m sound took. absurd (subst (IsReadError others) is named);
  }

  module _ (tree : Tree) (front rest : List ℕ) (is_read : reads tree) (is_spelled : Spells tree front) (joins : bytes ≡ front ++ rest)
      (one : (t : Tree) (p q : List ℕ) → reads t → Spells t p → bytes ≡ p ++ q → rest ≡ q) where
    -- A value was read, and the bytes after it were refused.
    pub of_check : (e : Error) → (length rest < k → e ≡ DeserializeUnexpectedEnd) → (k ≤ length rest → e ≡ DeserializeBadCrc)
        → ((a : Parameters) (m after : List ℕ) (crc : ℕ) → IsSound a → Took d a m → IsCrc a (m ++ front) crc → rest ≡ low_bytes k crc ++ after → ⊥)
        → IsFaultOf reads grows k d bytes e
    of_check e short long accepts = record {
      short = λ s. inl (short (subst (λ (q : List ℕ). length q < k) (sym (one s.tree s.front s.rest s.is_read s.is_spelled s.joins)) s.short));
      only_short = λ is t p q r s j. subst (λ (q : List ℕ). length q < k) (one t p q r s j) (⊎_elim (λ h. h) (λ h. let no = long h in absurd (cc)) (cases_lt (length rest) k));
      other = λ a m took o. inl (long (subst (λ (q : List ℕ). k ≤ length q) (sym (one o.tree o.front o.rest o.is_read o.is_spelled o.joins)) o.enough));
      only_other = λ is a m sound took. record {
        tree = tree;
        front = front;
        rest = rest;
        is_read = is_read;
        is_spelled = is_spelled;
        joins = joins;
        enough = ⊎_elim (λ h. let no = short h in absurd (cc)) (λ h. h) (cases_lt (length rest) k);
        other = λ crc after c j. accepts a m after crc sound took c j;
      };
    }

  -- A value was read, and the bytes after it were taken for its checksum.
  pub of_success : (one : (t : Tree) (p q : List ℕ) → reads t → Spells t p → bytes ≡ p ++ q → (rest : List ℕ) × (rest ≡ q) × (length rest < k → ⊥)
      × ((a : Parameters) (m : List ℕ) → Took d a m → (crc : ℕ) × (after : List ℕ) × IsCrc a (m ++ p) crc × (rest ≡ low_bytes k crc ++ after)))
      → IsFaultless reads grows k d bytes
  of_success one = record {
    not_short = λ s.
        let at = one s.tree s.front s.rest s.is_read s.is_spelled s.joins in
        at.2 (subst (λ (q : List ℕ). length q < k) (sym at.1) s.short);
    not_other = λ a m took o.
        let at = one o.tree o.front o.rest o.is_read o.is_spelled o.joins in
        let f = at.3 a m took in
        o.other f.0 f.1 f.2 (sym at.1 ∙ f.3);
  }

  -- Another error, of bytes that have no such fault.
  pub of_faultless : (e : Error) → IsFaultless reads grows k d bytes → (e ≡ DeserializeUnexpectedEnd → ⊥) → (e ≡ DeserializeBadCrc → ⊥)
      → IsFaultOf reads grows k d bytes e
  of_faultless e none not_end not_bad = record {
    short = λ s. absurd (none.not_short s);
    only_short = λ is t front rest r s j. absurd (not_end is);
    other = λ a m took o. absurd (none.not_other a m took o);
    only_other = λ is a m sound took. absurd (not_bad is);
  }
