-- A device that has a type and a host that has its schema agree on the same bytes.
use Rattle.std.proofs.Common.{◌≡◌, ℕ, List, ◌++◌, arith, inl, inr, sym, subst}
use Rattle.std.specs.Prelude.{Ok, Err, IfOk, IfErr, MatchResult}
use Rattle.postcard_wire.specs.declared.error.Error.TheVariants.{OutOfMemory}
use Rattle.postcard_wire.specs.Tree.{Tree, WellFormed}
use Rattle.postcard_wire.specs.Spelling.{Spells, canonical}
use Rattle.postcard_wire.proofs.Numbers.{IsOrLonger}
use Rattle.postcard_wire.proofs.Shortest.{Spells-canonical, least}
use Rattle.postcard_shape.specs.Shape.{Shape, memory}
use Rattle.postcard_de.specs.Front.{ReadsFront, TakesFromBytes}
use Rattle.postcard_de.specs.Reads.{IsReadError}
use Rattle.postcard_schema.specs.Meaning.{MessageType, reads}
use Rattle.postcard_value.specs.Tree.{IsTree, tree}
use Rattle.postcard_value.specs.TypeLaws.{type_well_formed}
use Rattle.postcard_value.specs.declared.value.Value.{Value}
use Rattle.postcard_described.specs.SameBytes.{SameBytes}
use Rattle.postcard_described.specs.Within.{Covered, Within}
use Rattle.postcard_described_host.specs.Agreement.{Agree, HostReads, HostTakes, Reading}

-- A prefix of the bytes encodes a tree of the set, and the schema covers the set: the host reads that tree.
pub host_reads_tree : {F : Tree → Type 0} (m : MessageType) → Covered F (reads m) → (bytes : List ℕ) (host : Reading Value) → HostTakes m bytes host
    → (t : Tree) (front rest : List ℕ) → F t → Spells t front → bytes ≡ front ++ rest → HostReads t rest host
host_reads_tree m inside bytes (Ok h) takes t front rest r s e =
    let (u, b, k) = inside t r in
    let a = takes.accepts u front rest b (k.there front s) e in
    (subst (λ z. SameBytes t z) a.0 k, a.1)
host_reads_tree m inside bytes (Err x) takes t front rest r s e =
    let (u, b, k) = inside t r in
    (takes.accepts u front rest b (k.there front s) e).0

-- Each of two lists is the other or longer, so they are the same.
neither_longer : (p q : List ℕ) → IsOrLonger p q → IsOrLonger q p → p ≡ q
neither_longer p q (inl e) k = e
neither_longer p q (inr l) (inl e) = sym e
neither_longer p q (inr l) (inr m) = absurd (omega (arith, l, m))

-- Well-formed trees with the same encodings have the same canonical encoding.
pub same_canonical : (t u : Tree) → WellFormed t → WellFormed u → SameBytes t u → canonical u ≡ canonical t
same_canonical t u f g same =
    neither_longer (canonical u) (canonical t) (least t (canonical u) (same.back (canonical u) (Spells-canonical u g)))
    (least u (canonical t) (same.there (canonical t) (Spells-canonical t f)))

module _ {V : Type 0} (shape : Shape V) (m : MessageType) where
  -- What a device reads, the host reads.
  pub values_agree : Covered shape.reads (reads m) → (bytes : List ℕ) (device : Reading V) (host : Reading Value)
      → TakesFromBytes shape bytes device → HostTakes m bytes host → IfOk device (λ _. Agree shape device host)
  values_agree inside bytes (Ok d) host f g =
      let r = f.gives in
      (r.tree, r.has, host_reads_tree m inside bytes host g r.tree r.front d.1.now r.is_read r.is_spelled r.joins)
  values_agree inside bytes (Err x) host f g = tt

  -- What the device refuses, the host refuses, if the type is exact.
  pub all_agree : (exact : Type 0) → Within exact shape.reads (reads m) → exact → (bytes : List ℕ) (device : Reading V) (host : Reading Value)
      → TakesFromBytes shape bytes device → HostTakes m bytes host → Agree shape device host
  all_agree exact law is_exact bytes (Ok d) host f g = values_agree law.inside bytes (Ok d) host f g
  all_agree exact law is_exact bytes (Err x) (Ok h) f g =
      let r = g.gives in
      let (u, b, k) = law.all is_exact r.tree r.is_read in
      f.accepts u r.front h.1.now b (k.there r.front r.is_spelled) r.joins
  all_agree exact law is_exact bytes (Err x) (Err y) f g = tt

  -- What a device writes, the host reads.
  pub written_agrees : Covered shape.reads (reads m) → (v : V) (bytes rest : List ℕ) (host : Reading Value)
      → shape.fits v → bytes ≡ canonical (shape.tree v) ++ rest → HostTakes m bytes host → HostReads (shape.tree v) rest host
  written_agrees inside v bytes rest host fits is g =
      let t = shape.tree v in
      let r = (shape.again v fits).0 in
      host_reads_tree m inside bytes host g t (canonical t) rest r (Spells-canonical t (shape.well_formed t r)) is

  -- The host read what a device wrote. The canonical encoding of its value is what the device wrote.
  pub written_back : Covered shape.reads (reads m) → (v : V) (bytes rest : List ℕ) (host : Reading Value)
      → shape.fits v → bytes ≡ canonical (shape.tree v) ++ rest → HostTakes m bytes host → IfOk host (λ read. canonical (tree read.0) ≡ canonical (shape.tree v))
  written_back inside v bytes rest (Ok h) fits is g =
      let same = written_agrees inside v bytes rest (Ok h) fits is g in
      let own = subst WellFormed g.gives.has (type_well_formed m g.gives.tree g.gives.is_read) in
      same_canonical (shape.tree v) (tree h.0) (shape.well_formed (shape.tree v) (shape.again v fits).0) own same.0
  written_back inside v bytes rest (Err x) fits is g = tt

-- What `postcard_value::take_from_bytes` ensures, as one record.
pub host_takes : (m : MessageType) (bytes : List ℕ) (host : Reading Value)
    → IfOk host (λ read. ReadsFront (reads m) IsTree bytes read.0 read.1.now)
    → ((t : Tree) (front rest : List ℕ) → reads m t → Spells t front → bytes ≡ front ++ rest
    → MatchResult host (λ read. (t ≡ tree read.0) × (read.1.now ≡ rest)) (λ e. e ≡ OutOfMemory))
    → ((v : Value) (rest : List ℕ) → reads m (tree v) → bytes ≡ canonical (tree v) ++ rest
    → MatchResult host (λ read. (tree v ≡ tree read.0) × (read.1.now ≡ rest)) (λ e. e ≡ OutOfMemory))
    → IfErr host (IsReadError memory) → HostTakes m bytes host
host_takes m bytes (Ok h) gives accepts back named = record {
  gives = gives;
  accepts = accepts;
  reads_back = λ v rest r e. let a = back v rest r e in (sym a.0, a.1);
  out_of_memory_only_if_grows = λ _. tt;
  named_error = named;
}
host_takes m bytes (Err x) gives accepts back named = record {
  gives = gives;
  accepts = λ t front rest r s e. (accepts t front rest r s e, tt);
  reads_back = λ v rest r e. (back v rest r e, tt);
  out_of_memory_only_if_grows = λ _. tt;
  named_error = named;
}
