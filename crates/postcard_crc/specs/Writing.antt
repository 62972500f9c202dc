-- What a flavor that adds a checksum does, in the words of the flavor that it writes to.
use Rattle.std.specs.Prelude.{◌≡◌, ℕ, ◌+◌, ◌≤◌, List, [], ◌++◌, length}
use Rattle.std.proofs.Common.{sym, subst, ◌∙◌, append_assoc, append-nil, arith}
use Rattle.std.proofs.lemmas.List.{length-append}
use Rattle.crc.specs.Crc.{Parameters, IsCrc}
use Rattle.crc.specs.Digest.{Progress, Took}
use Rattle.crc.specs.Checked.{low_bytes}
use Rattle.postcard_ser_flavors.specs.Flavor.{IsFlavor}
use Rattle.postcard_cobs.specs.Groups.{made}
use Rattle.postcard_ser.specs.Finished.{Finished}
use Rattle.postcard_ser_flavors.specs.declared.flavor.Flavor.{Ghosts}

-- The digest e has taken what d has, and then the bytes xs.
abbrev pub Continues : Progress → List ℕ → Progress → Type 0
Continues d xs e = (a : Parameters) (m : List ℕ) → Took d a m → Took e a (m ++ xs)

-- `crc` is the checksum of what the digest has taken, and then the bytes.
abbrev pub IsCrcAfter : Progress → List ℕ → ℕ → Type 0
IsCrcAfter d xs crc = (a : Parameters) (m : List ℕ) → Took d a m → IsCrc a (m ++ xs) crc

-- The flavor s has room for any list of bytes that is longer than xs by n.
abbrev pub HasRoom : {S : Type 0} → ℕ → (S → List ℕ → Type 0) → S → List ℕ → Type 0
HasRoom n room s xs = (ys : List ℕ) → length ys ≡ length xs + n → room s ys

-- The flavor s took the k bytes of the checksum of what the digest has taken, then ended, and
-- returned the output.
pub record EndsWithCrc {S O : Type 0} (F : Ghosts S O) (k : ℕ) (d : Progress) (s : S) (output : O) : Type 0 where
  pub crc : ℕ
  pub is_crc : (a : Parameters) (m : List ℕ) → Took d a m → IsCrc a m crc
  pub last : S
  pub appended : F.appended s (low_bytes k crc) last
  pub reached : F.reaches s last
  pub ended : F.finishes last output

-- The flavor s took the bytes and then the k bytes of their checksum, ended, and returned the output.
pub record FinishedWithCrc {S O : Type 0} (F : Ghosts S O) (k : ℕ) (d : Progress) (s : S) (bytes : List ℕ) (output : O) : Type 0 where
  pub crc : ℕ
  pub is_crc : IsCrcAfter d bytes crc
  pub ended : Finished F s (bytes ++ low_bytes k crc) output

-- The output is the made frame of the bytes and then the k bytes of their checksum.
pub record IsFrameWithCrc (k : ℕ) (d : Progress) (bytes output : List ℕ) : Type 0 where
  pub crc : ℕ
  pub is_crc : IsCrcAfter d bytes crc
  pub frames : output ≡ made (bytes ++ low_bytes k crc)

-- The frame of the bytes and any checksum of k bytes has at most n bytes.
abbrev pub FrameFits : ℕ → List ℕ → ℕ → Type 0
FrameFits k bytes n = (ys : List ℕ) → length ys ≡ length bytes + k → length (made ys) ≤ n

-- Nothing was taken.
pub continues_none : (d : Progress) → Continues d [] d
continues_none d a m h = subst (Took d a) (sym (append-nil m)) h

-- First xs, and then ys.
pub continues_join : (d e f : Progress) (xs ys : List ℕ) → Continues d xs e → Continues e ys f → Continues d (xs ++ ys) f
continues_join d e f xs ys p q a m h = subst (Took f a) (append_assoc m xs ys) (q a (m ++ xs) (p a m h))

module _ {S : Type 0} {appended : S → List ℕ → S → Type 0} {room : S → List ℕ → Type 0} {reaches : S → S → Type 0} (n : ℕ) (laws : IsFlavor appended room reaches) where
  -- With room for xs ++ ys, there is room for xs.
  pub front_has_room : (s : S) (xs ys : List ℕ) → HasRoom n room s (xs ++ ys) → HasRoom n room s xs
  front_has_room s xs ys r zs e =
      let a = length-append zs ys in
      let b = length-append xs ys in
      laws.room_front s zs ys (r (zs ++ ys) (omega arith))

  -- With room for xs ++ ys, there is room for ys once xs is written.
  pub rest_has_room : (s t : S) (xs ys : List ℕ) → HasRoom n room s (xs ++ ys) → appended s xs t → reaches s t → HasRoom n room t ys
  rest_has_room s t xs ys r p v zs e =
      let a = length-append xs zs in
      let b = length-append xs ys in
      laws.room_rest s t xs zs (r (xs ++ zs) (omega arith)) p v

  -- The inner flavor has room for the bytes themselves, and then for n more.
  pub bytes_have_room : (s : S) (xs zs : List ℕ) → length zs ≡ n → HasRoom n room s xs → room s xs
  bytes_have_room s xs zs e r = laws.room_front s xs zs (r (xs ++ zs) (length-append xs zs ∙ omega arith))

  -- Once the n bytes at the end are written, the inner flavor has room to end.
  pub end_has_room : (s t : S) (zs : List ℕ) → length zs ≡ n → HasRoom n room s [] → appended s zs t → reaches s t → room t []
  end_has_room s t zs e r p v = laws.room_rest s t zs [] (r (zs ++ []) (length-append zs [] ∙ omega arith)) p v
