-- What a source that checks a checksum does, over a source whose bytes are known.
use Rattle.std.specs.Prelude.{◌≡◌, ◌⊎◌, ℕ, ◌≤◌, ◌<◌, List, [], ◌++◌, length, Result, MatchResult}
use Rattle.std.proofs.Common.{refl, sym, ap, ◌∙◌, append_assoc, arith}
use Rattle.std.specs.Borrow.{Bor}
use Rattle.crc.specs.Crc.{Parameters, IsCrc, IsSound}
use Rattle.crc.specs.Digest.{Progress, Took}
use Rattle.crc.specs.Checked.{low_bytes}
use Rattle.postcard_wire.specs.declared.error.Error.{Error}
use Rattle.postcard_wire.specs.declared.error.Error.TheVariants.{DeserializeUnexpectedEnd, DeserializeBadCrc}
use Rattle.postcard_de_flavors.specs.Source.{known, Laws}
use Rattle.postcard_crc.specs.Writing.{Continues, continues_none, continues_join}

-- A call took some of the remaining bytes, and the digest took the same bytes.
pub record TookBoth (left : List ℕ) (d : Progress) (left' : List ℕ) (d' : Progress) : Type 0 where
  pub bytes : List ℕ
  pub joins : left ≡ bytes ++ left'
  pub continues : Continues d bytes d'

-- The bytes left begin with the k bytes of the checksum, and `rest` is what follows.
pub record IsRest (k : ℕ) (left : List ℕ) (d : Progress) (rest : List ℕ) : Type 0 where
  pub crc : ℕ
  pub is_crc : (a : Parameters) (m : List ℕ) → Took d a m → IsCrc a m crc
  pub joins : left ≡ low_bytes k crc ++ rest

-- The bytes left begin with the k bytes of the checksum of what the digest has taken.
pub record Follows (k : ℕ) (left : List ℕ) (d : Progress) : Type 0 where
  pub algorithm : Parameters
  pub taken : List ℕ
  pub crc : ℕ
  pub rest : List ℕ
  pub sound : IsSound algorithm
  pub took : Took d algorithm taken
  pub is_crc : IsCrc algorithm taken crc
  pub joins : left ≡ low_bytes k crc ++ rest

-- The result of `finalize`: the bytes after the checksum, or an error. It succeeds if the checksum follows.
abbrev pub Finishes : ℕ → List ℕ → Progress → Result (Bor (List ℕ)) Error → Type 0
Finishes k left d r = MatchResult r (λ rest. IsRest k left d rest.now)
    (λ e. ((e ≡ DeserializeUnexpectedEnd) × (length left < k))
    ⊎ ((e ≡ DeserializeBadCrc) × (k ≤ length left) × (Follows k left d → ⊥)))

-- The laws of a source.
pub crc_laws : {S : Type 0} (left : S → List ℕ) (digest : S → Progress)
    → Laws (λ s. known (left s)) (λ s n. n ≤ length (left s)) (λ s t. TookBoth (left s) (digest s) (left t) (digest t))
crc_laws left digest = record {
  fewer = λ s m n le enough. omega arith;
  itself = λ s. record { bytes = []; joins = refl; continues = continues_none (digest s) };
  joins = λ s t u a b. record {
    bytes = a.bytes ++ b.bytes;
    joins = a.joins ∙ ap (λ (l : List ℕ). a.bytes ++ l) b.joins ∙ sym (append_assoc a.bytes b.bytes (left u));
    continues = continues_join (digest s) (digest t) (digest u) a.bytes b.bytes a.continues b.continues;
  };
}
