-- One byte was read, and the scratch stays as it is.
use Rattle.std.proofs.Common.{◌≡◌, ℕ, List, [], ◌∷◌, length, get_or, refl, subst, arith, rules}
use Rattle.std.specs.Io.KnownBytes.{Consumes}
use Rattle.postcard_de_flavors.proofs.AtLeastLemmas.{at_least_after}
use Rattle.postcard_de_flavors.proofs.Rear.{rear_same}
use Rattle.postcard_de_flavors.proofs.io.io.IOReaderFlavor.pop.Goals as goal

-- A list of one element is that element.
one : (bs : List ℕ) → length bs ≡ 1 → bs ≡ get_or bs 0 0 ∷ []
one [] e = absurd (omega arith)
one (b ∷ []) e = refl
one (b ∷ c ∷ bs) e = absurd (omega arith)

pub returns-in-Ok-clause-takes : goal.returns-in-Ok-clause-takes
returns-in-Ok-clause-takes g c =
    let did = c.in-Ok.ensures in
    let old = g.T.Read.remaining c.args.self.now.reader in
    let new = g.T.Read.remaining c.read_full.new.self in
    let buf = c.read_full.new.buf in
    let b = get_or buf 0 0 in
    let took : Consumes old new (b ∷ []) =
    subst (λ (l : List ℕ). Consumes old new l) (one buf c.read_full.auto.buf) did.bytes in
    record {
      gives = record {
        drops = took;
        scratch = rear_same 1 c.args.self.now.scratch;
        keeps = λ n able. (did.stays_steady able.0, at_least_after old new (b ∷ []) n took able.1, omega (arith, able.2));
      };
      accepts = search rules;
      leaves = search rules;
      refuses_by_unexpected_end = search rules;
    }
