-- Lemmas on a frame in a storage that has room for it from the start.
use Rattle.std.proofs.Common.{◌≡◌, ℕ, ◌+◌, ◌-◌, ◌^◌, ◌≤◌, List, [], length, Bool, subst, arith}
use Rattle.postcard_cobs.specs.Groups.{Standing, made}
use Rattle.postcard_ser_cobs.specs.Framing.{HoldsOpen, HasFrameRoom}
use Rattle.postcard_ser_cobs.specs.FramingLaws.{made_least}

-- A storage that has room for the made frame has room for one byte.
pub one_free : {S : Type 0} {free : S → ℕ → Type 0}
    → ((s : S) (m n : ℕ) → free s (m + n) → free s m) → (s : S) (xs : List ℕ)
    → free s (length (made xs)) → free s 1
one_free {free = free} fewer s xs h =
    let e : length (made xs) ≡ 1 + (length (made xs) - 1) = omega (arith, made_least [] xs) in
    fewer s 1 _ (subst (λ n. free s n) e h)

-- A storage that had room for the made frame before the first byte has room for the data after it.
pub data_room : {S : Type 0} {held : S → List ℕ} {free : S → ℕ → Type 0} (s : S) {t : S}
    {start : ℕ} {at : Standing} {failed : Bool} {before : List ℕ} (xs : List ℕ)
    → HoldsOpen held t start at failed before [] → ((n : ℕ) → free s (1 + n) → free t n)
    → length (made xs) ≤ 2 ^ 64 - 1 - 2 → free s (length (made xs))
    → HasFrameRoom held free t start at failed xs
data_room {free = free} s xs holds keeps few room =
    let m = made_least [] xs in
    let e : length (made xs) ≡ 1 + (length (made xs) - length (made []) + 1) = omega arith in
    record {
      before = _;
      d = [];
      holds = holds;
      enough = keeps _ (subst (λ n. free s n) e room);
      few = few;
    }
