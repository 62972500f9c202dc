-- Why a flavor over a writer is lawful, whether the writer says which bytes it holds or not. The
-- lemmas are here since a ghost member cites them.
use Rattle.std.proofs.Common.{ℕ, List, [], ◌++◌, Option, Some, None, sym, append-nil}
use Rattle.std.specs.Io.KnownBytes.{Appends}
use Rattle.postcard_ser_flavors.specs.Flavor.{IsFlavor}
use Rattle.postcard_ser_flavors.specs.Held.{NoRoom, AnyReached}
use Rattle.postcard_ser_flavors.specs.SliceLaws.{held_join}

-- Appending nothing changes nothing.
pub appends_none : (h : Option (List ℕ)) → Appends h h []
appends_none None = tt
appends_none (Some h) = sym (append-nil h)

-- Two lists appended one after the other are their join appended.
pub appends_join : (h i j : Option (List ℕ)) (x y : List ℕ) → Appends h i x → Appends i j y → Appends h j (x ++ y)
appends_join None i j x y p q = tt
appends_join (Some h) None j x y p q = absurd p
appends_join (Some h) (Some i) None x y p q = absurd q
appends_join (Some h) (Some i) (Some j) x y p q = held_join h i j x y p q

module _ {S : Type 0} (known : S → Option (List ℕ)) where
  -- The bytes that the writer says it holds, if it does, grow by x.
  abbrev pub AppendsKnown : S → List ℕ → S → Type 0
  AppendsKnown s x t = Appends (known s) (known t) x

  -- The flavor that writes to a writer is lawful.
  pub writer_lawful : IsFlavor AppendsKnown NoRoom AnyReached
  writer_lawful = record {
    appended_none = λ s. appends_none (known s);
    appended_join = λ s t u x y p q. appends_join (known s) (known t) (known u) x y p q;
    room_front = λ s x y r. r;
    room_rest = λ s t x y r p v. r;
    reaches_self = λ s. tt;
    reaches_join = λ s t u p q. tt;
    reaches_prop = λ s t. hlevel tt;
  }
