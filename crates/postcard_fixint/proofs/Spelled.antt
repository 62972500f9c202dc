-- How the bytes of an array are encoded, and which bytes are those of a number.
use Rattle.std.proofs.Common.{◌≡◌, ◌↔◌, ℕ, ◌<◌, ◌^◌, List, [], ◌∷◌, length, refl, sym, ap, ◌∙◌, subst}
use Rattle.std.specs.Prelude.{map}
use Rattle.postcard_wire.specs.Tree.{Byte, trees}
use Rattle.postcard_wire.specs.Spelling.{canonical_all}
use Rattle.postcard_shape.specs.Base256.{AreNumber, Order}

-- The encoding of bytes in a row is those bytes.
pub bytes_of_bytes : (bs : List ℕ) → canonical_all (trees (map Byte bs)) ≡ bs
bytes_of_bytes [] = refl
bytes_of_bytes (b ∷ bs) = ap (λ (x : List ℕ). b ∷ x) (bytes_of_bytes bs)

-- The bytes p are the number n if and only if they are `order.spell k n`.
pub only_bytes : (order : Order) (k n : ℕ) (p : List ℕ) → n < 256 ^ k
    → AreNumber order.value k n p ↔ (p ≡ order.spell k n)
only_bytes order k n p f =
    let made : AreNumber order.value k n (order.spell k n) =
    record { count = order.counts k n; bytes = order.bytes k n; value_is = order.worth k n f }
    in
    let only : AreNumber order.value k n p → p ≡ order.spell k n = λ h.
    order.one p (order.spell k n) (h.count ∙ sym made.count) h.bytes made.bytes
    (h.value_is ∙ sym made.value_is) in
    (only, λ e. subst (AreNumber order.value k n) (sym e) made)

-- The encoding of a number of k bytes has k bytes, in either order.
pub encoded_length : (order : Order) (k n : ℕ)
    → length (canonical_all (trees (map Byte (order.spell k n)))) ≡ k
encoded_length order k n = ap length (bytes_of_bytes (order.spell k n)) ∙ order.counts k n
