-- A number that is made of an array of its bytes.
use Rattle.std.proofs.Common.{◌≡◌, ℕ, List, sym}
use Rattle.postcard_shape.specs.Base256.{Order}
use Rattle.postcard_shape.specs.Runs.{IsValue}
use Rattle.postcard_shape.specs.Shape.{Shape}
use Rattle.postcard_fixint.specs.Fixed.{FixedWidth, IsByteArray, fixed}

-- The bytes that encode an array encode the number that is made of it.
pub number_value : {B V : Type 0} (s : Shape B) (list : B → List ℕ) (order : Order) (width : FixedWidth V)
    → IsByteArray s list width.size → (b : B) (v : V) → width.modulo v ≡ order.value (list b) → width.fits v
    → (p : List ℕ) → IsValue s p b → IsValue (fixed order width) p v
number_value s list order width is b v same fits p h =
    (h.0, is.reads h.0 h.1, h.2, (list b, is.value h.0 b h.3, sym same, fits))
