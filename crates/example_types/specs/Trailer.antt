-- Definitions and lemmas of a flavor that adds a byte at the end of a message, from those of the inner flavor.
use Rattle.std.specs.Prelude.{◌≡◌, ℕ, suc, List, [], ◌∷◌, ◌++◌, length}
use Rattle.std.proofs.Common.{refl, ◌∙◌, arith}
use Rattle.std.proofs.lemmas.List.{length-append}
use Rattle.postcard_ser_flavors.specs.Flavor.{IsFlavor}
use Rattle.postcard_ser_flavors.specs.declared.flavor.Flavor.{Ghosts}

-- The flavor s has room for any list of bytes that is longer than xs by one.
abbrev pub HasRoom : {S : Type 0} → (S → List ℕ → Type 0) → S → List ℕ → Type 0
HasRoom room s xs = (ys : List ℕ) → length ys ≡ suc (length xs) → room s ys

-- The flavor s took the bytes xs, then ended, and returned the output.
pub record Ends {S O : Type 0} (F : Ghosts S O) (s : S) (xs : List ℕ) (output : O) : Type 0 where
  pub last : S
  pub appended : F.appended s xs last
  pub reached : F.reaches s last
  pub ended : F.finishes last output

-- With room for xs ++ ys, there is room for xs.
pub front_has_room : {S : Type 0} {appended : S → List ℕ → S → Type 0} {room : S → List ℕ → Type 0} {reaches : S → S → Type 0} → IsFlavor appended room reaches → (s : S) (xs ys : List ℕ) → HasRoom room s (xs ++ ys) → HasRoom room s xs
front_has_room laws s xs ys r zs e =
    let a = length-append zs ys in
    let b = length-append xs ys in
    laws.room_front s zs ys (r (zs ++ ys) (omega arith))

-- With room for xs ++ ys, there is room for ys once xs is written.
pub rest_has_room : {S : Type 0} {appended : S → List ℕ → S → Type 0} {room : S → List ℕ → Type 0} {reaches : S → S → Type 0} → IsFlavor appended room reaches → (s t : S) (xs ys : List ℕ) → HasRoom room s (xs ++ ys) → appended s xs t → reaches s t → HasRoom room t ys
rest_has_room laws s t xs ys r p v zs e =
    let a = length-append xs zs in
    let b = length-append xs ys in
    laws.room_rest s t xs zs (r (xs ++ zs) (omega arith)) p v

-- The inner flavor has room for the bytes themselves.
pub bytes_have_room : {S : Type 0} {appended : S → List ℕ → S → Type 0} {room : S → List ℕ → Type 0} {reaches : S → S → Type 0} → IsFlavor appended room reaches → (s : S) (xs : List ℕ) → HasRoom room s xs → room s xs
bytes_have_room laws s xs r = laws.room_front s xs (0 ∷ []) (r (xs ++ 0 ∷ []) (length-append xs (0 ∷ []) ∙ omega arith))

-- Once the byte at the end is written, the inner flavor has room to end.
pub end_has_room : {S : Type 0} {appended : S → List ℕ → S → Type 0} {room : S → List ℕ → Type 0} {reaches : S → S → Type 0} → IsFlavor appended room reaches → (s t : S) → HasRoom room s [] → appended s (0 ∷ []) t → reaches s t → room t []
end_has_room laws s t r p v = laws.room_rest s t (0 ∷ []) [] (r (0 ∷ []) refl) p v
