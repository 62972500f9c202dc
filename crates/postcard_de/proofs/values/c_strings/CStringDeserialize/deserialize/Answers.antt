-- Bytes with a NUL are those of no text of C.
use Rattle.std.proofs.Common.{◌≡◌, List, ℕ, subst}
use Rattle.std.specs.Ffi.{HasNoNul}
use Rattle.postcard_wire.specs.Tree.{Byte}
use Rattle.postcard_shape.specs.Leaves.{byte_one}
use Rattle.postcard_shape.specs.Lists.{list_one, same_list}
use Rattle.postcard_de_nodes.specs.SeenLemmas.{unfit}
use Rattle.postcard_de.proofs.Lists.{at_none}
use Rattle.postcard_de.proofs.values.c_strings.CStringDeserialize.deserialize.Goals as goal

pub returns-in-None : goal.returns-in-None
returns-in-None g c =
    let bytes = c.in_ok-bytes.bytes.items in
    unfit tt (λ t a. a.0)
    (λ t (a, (v, h, clean)) k.
    let one : v ≡ bytes = same_list v bytes (list_one (λ (l : List ℕ). l) (λ s b. s ≡ Byte b) (λ b d. b ≡ d) byte_one t v bytes h k) in
    at_none c.in-None.is c.in_ok-text.ensures.none (subst (λ (l : List ℕ). HasNoNul l) one clean))
    c.in_ok-bytes.ensures
