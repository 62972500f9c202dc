-- What the frame flavor holds, has room for, and leaves. The frames are those of Cheshire and Baker
-- 1999, by the definitions of postcard_cobs.
use Rattle.std.specs.Prelude.{◌≡◌, ℕ, ◌+◌, ◌-◌, ◌^◌, ◌≤◌, List, ◌++◌, length, Bool, IsFalse, IsTrue}
use Rattle.postcard_cobs.specs.Groups.{IsOpen, Standing, made}

module _ {S : Type 0} (held : S → List ℕ) where
  -- No byte was refused, and the storage s holds the bytes `before`, whose number is `start`,
  -- followed by an open frame of the data d, in whose state the encoder is.
  pub record HoldsOpen (s : S) (start : ℕ) (at : Standing) (failed : Bool) (before d : List ℕ) : Type 0 where
    pub going : IsFalse failed
    pub frame : List ℕ
    pub held_is : held s ≡ before ++ frame
    pub starts : start ≡ length before
    pub stands : IsOpen frame at d

  -- The storage s holds the bytes `before`, whose number is `start`, followed by an open frame of
  -- the data d, in whose state the encoder is, and then by the bytes x.
  pub record HoldsThen (s : S) (start : ℕ) (at : Standing) (before d x : List ℕ) : Type 0 where
    pub frame : List ℕ
    pub held_is : held s ≡ before ++ (frame ++ x)
    pub starts : start ≡ length before
    pub stands : IsOpen frame at d

  module _ (free : S → ℕ → Type 0) where
    -- The data x has room. The storage has as many bytes free as the frame grows by, and one more for
    -- its zero. The length of the whole frame can be counted.
    pub record HasFrameRoom (s : S) (start : ℕ) (at : Standing) (failed : Bool) (x : List ℕ) : Type 0 where
      pub before : List ℕ
      pub d : List ℕ
      pub holds : HoldsOpen s start at failed before d
      pub enough : free s (length (made (d ++ x)) - length (made d) + 1)
      pub few : length (made (d ++ x)) ≤ 2 ^ 64 - 1 - 2

    -- What pushes leave, also refused ones. The storage is one that its pushes may leave, and a
    -- refusal stays. Without one the storage has grown and has its other bytes free.
    pub record LeavesFrame (reaches : S → S → Type 0) (s : S) (failed : Bool) (t : S) (failed' : Bool) : Type 0 where
      pub inner : reaches s t
      pub stays_failed : IsTrue failed → IsTrue failed'
      pub grows : IsFalse failed' → length (held s) ≤ length (held t)
      pub keeps_free : IsFalse failed' → (k n : ℕ) → length (held t) ≡ length (held s) + k → free s (k + n) → free t n
