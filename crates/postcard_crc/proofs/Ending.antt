-- The result of ending a source that checks a checksum.
use Rattle.std.proofs.Common.{◌≡◌, ℕ, ◌<◌, ◌≤◌, List, ◌++◌, length, inl, inr, ap, ◌∙◌, ⊎_elim, Result, Ok, Err, Bor, IfErr, IsErrOf, MatchResult}
use Rattle.std.specs.Result.{IfOk}
use Rattle.std.proofs.lemmas.Bool.{cases_lt}
use Rattle.crc.specs.Crc.{Parameters, IsCrc}
use Rattle.crc.specs.Digest.{Progress, Took}
use Rattle.crc.specs.Checked.{low_bytes}
use Rattle.crc.proofs.CheckedLemmas.{one_crc}
use Rattle.postcard_wire.specs.declared.error.Error.{Error}
use Rattle.postcard_wire.specs.declared.error.Error.TheVariants.{DeserializeUnexpectedEnd, DeserializeBadCrc}
use Rattle.postcard_crc.specs.Source.{Finishes}

-- The bytes after the checksum of what the digest has taken, or the error.
pub finishes : (k : ℕ) (left : List ℕ) (d : Progress) (crc : ℕ) (r : Result (Bor (List ℕ)) Error)
    → ((a : Parameters) (m : List ℕ) → Took d a m → IsCrc a m crc)
    → IfOk r (λ after. left ≡ low_bytes k crc ++ after.now)
    → ((after : List ℕ) → left ≡ low_bytes k crc ++ after → MatchResult r (λ x. x.now ≡ after) (λ _. ⊥))
    → (length left < k → IsErrOf r DeserializeUnexpectedEnd) → (k ≤ length left → IfErr r (λ e. e ≡ DeserializeBadCrc))
    → Finishes k left d r
finishes k left d crc (Ok after) is gives accepts short long = record { crc = crc; is_crc = is; joins = gives }
finishes k left d crc (Err e) is gives accepts short long = ⊎_elim
    (λ h. let is = short h in let at : e ≡ DeserializeUnexpectedEnd = cc in inl (at, h))
    (λ h. inr (long h, h, λ f. accepts f.rest (f.joins ∙ ap (λ n. low_bytes k n ++ f.rest) (one_crc f.algorithm f.sound f.taken f.crc crc f.is_crc (is f.algorithm f.taken f.took)))))
    (cases_lt (length left) k)
