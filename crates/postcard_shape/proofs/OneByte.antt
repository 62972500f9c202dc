-- Numbers of one byte each, written many at a time.
use Rattle.std.proofs.Common.{◌≡◌, ℕ, ◌+◌, ◌/◌, ◌%◌, ◌<◌, List, [], ◌∷◌, ◌++◌, length, take, get_or, set, refl, sym, ap, ◌∙◌, arith}
use Rattle.std.specs.Prelude.{map}
use Rattle.std.proofs.lemmas.Grind.{take-set_at}
use Rattle.std.proofs.lemmas.List.{take_more}
use Rattle.postcard_wire.specs.Number.{digits}
use Rattle.postcard_wire.specs.Spelling.{canonical, canonical_all}
use Rattle.postcard_wire.specs.Tree.{trees}
use Rattle.postcard_wire.proofs.Numbers.{one_digit}
use Rattle.postcard_shape.specs.Lists.{AllFit}
use Rattle.postcard_shape.specs.Runs.{IsVarintOf}
use Rattle.postcard_shape.specs.Shape.{Shape}

-- Each byte is the encoding of the value beside it, which fits.
abbrev pub AreOneByte : {V : Type 0} → Shape V → List V → List ℕ → Type 0
AreOneByte s [] [] = Unit {0}
AreOneByte s (v ∷ vs) (b ∷ bs) = s.fits v × (canonical (s.tree v) ≡ b ∷ []) × AreOneByte s vs bs
AreOneByte s _ _ = ⊥

-- The bytes are the encodings of the values, one after the other.
pub are_encoded : {V : Type 0} (s : Shape V) (vs : List V) (bs : List ℕ) → AreOneByte s vs bs →
    (bs ≡ canonical_all (trees (map s.tree vs))) × AllFit s.fits vs
are_encoded s [] [] a = (refl, tt)
are_encoded s [] (b ∷ bs) a = absurd a
are_encoded s (v ∷ vs) [] a = absurd a
are_encoded s (v ∷ vs) (b ∷ bs) a =
    let k = are_encoded s vs bs a.2 in (
      ap (λ (z : List ℕ). b ∷ z) k.0 ∙ ap (λ (z : List ℕ). z ++ canonical_all (trees (map s.tree vs))) (sym a.1),
      (a.0, k.1),
    )

-- One value more.
pub one_byte_more : {V : Type 0} (s : Shape V) (vs : List V) (bs : List ℕ) (v : V) (b : ℕ) → AreOneByte s vs bs → s.fits v →
    canonical (s.tree v) ≡ b ∷ [] → AreOneByte s (vs ++ v ∷ []) (bs ++ b ∷ [])
one_byte_more s [] [] v b a f e = (f, e, tt)
one_byte_more s [] (c ∷ bs) v b a f e = absurd a
one_byte_more s (w ∷ vs) [] v b a f e = absurd a
one_byte_more s (w ∷ vs) (c ∷ bs) v b a f e = (a.0, a.1, one_byte_more s vs bs v b a.2 f e)

-- A number below 128 is a byte.
one_byte : (n : ℕ) → n / 128 ≡ 0 → digits n ≡ (n % 256) ∷ []
unfolding digits
one_byte n h =
    let low : n < 128 = omega (arith, h) in
    let same : n ≡ n % 256 = omega (arith, low) in
    one_digit 18 n low ∙ ap (λ (m : ℕ). m ∷ []) same

-- One value more within a loop over a list.
pub one_byte_goes_on : {V : Type 0} (s : Shape V) (vs : List V) (bs : List ℕ) (i : ℕ) (v : V) (n : ℕ) →
    i < length vs → i < length bs → v ≡ get_or vs i v → AreOneByte s (take i vs) (take i bs) → IsVarintOf s n v → n / 128 ≡ 0 →
    AreOneByte s (take (i + 1) vs) (take (i + 1) (set bs i (n % 256)))
one_byte_goes_on {V} s vs bs i v n h k is a one small =
    let more : take (i + 1) vs ≡ take i vs ++ v ∷ [] = take_more vs i v h ∙ ap (λ (z : V). take i vs ++ z ∷ []) (sym is) in
    rw (more, take-set_at bs i (i + 1) (n % 256) refl k)
    (one_byte_more s (take i vs) (take i bs) v (n % 256) a one.fits (one.encoded ∙ one_byte n small))
