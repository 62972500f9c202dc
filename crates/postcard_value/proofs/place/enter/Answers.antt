-- A type without parts stops at its first node, and an array in one of its elements.
use Rattle.std.proofs.Common.{refl}
use Rattle.std.proofs.lemmas.Result.{IfOk-weaker}
use Rattle.postcard_value.specs.Refused.{at_leaf}
use Rattle.postcard_value.proofs.PlaceLemmas.{array_finds}
use Rattle.postcard_value.proofs.place.enter.Goals as goal

pub returns-in-Leaf-clause-found : goal.returns-in-Leaf-clause-found
returns-in-Leaf-clause-found c = (λ none. at_leaf _ _ _ c.in-Leaf.is none, refl)

pub returns-in-Array-clause-found : goal.returns-in-Array-clause-found
returns-in-Array-clause-found c =
    IfOk-weaker c.enter_elements.result _ _ (λ found h. array_finds c.args.schema.now c.in-Array.element c.args.bytes.now c.in-Array.count c.in-Array.is _ _ found h)
    (rw c.deref-in-Array.ensures at c.enter_elements.ensures.found)
