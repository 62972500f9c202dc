-- What a contract sees of the flavors that hold a list of bytes, and why they are lawful. The
-- lemmas are here since ghost members cite them.
use Rattle.std.proofs.Common.{◌≡◌, ℕ, ◌+◌, ◌<◌, ◌≤◌, List, ◌++◌, length, sym, ap, append-nil, length-append, arith}
use Rattle.std.specs.Coded.{le_prop}
use Rattle.std.specs.Prelude.{⊤, slice_index}
use Rattle.postcard_ser_flavors.specs.Flavor.{IsFlavor}
use Rattle.postcard_ser_flavors.specs.SliceLaws.{held_join, fits_front, fits_rest}
use Rattle.postcard_ser_flavors.specs.Storage.{IsFree, IsStorage, IsIndexed}

module _ {S : Type 0} (held : S → List ℕ) where
  -- State t holds what s did, followed by x.
  abbrev pub Appended : S → List ℕ → S → Type 0
  Appended s x t = held t ≡ held s ++ x

  -- With x the flavor holds at most `capacity` bytes.
  abbrev pub HasRoom : ℕ → S → List ℕ → Type 0
  HasRoom capacity s x = length (held s) + length x ≤ capacity

  -- With n more bytes the flavor holds at most `capacity` bytes.
  abbrev pub HasFreeUpTo : ℕ → S → ℕ → Type 0
  HasFreeUpTo capacity s n = length (held s) + n ≤ capacity

-- The flavor never promises room.
abbrev pub NoRoom : {S : Type 0} → S → List ℕ → Type 0
NoRoom s x = ⊥

-- The storage never promises that bytes are free, not even 0.
abbrev pub NoneFree : {S : Type 0} → S → ℕ → Type 0
NoneFree s n = ⊥

-- A storage that never promises free bytes keeps the laws of `free`.
pub none_free : {S : Type 0} → IsFree (λ (s : S) n. NoneFree s n)
none_free = record {
  free_fewer = λ s m n h. h;
  free_prop = λ s n. hlevel tt;
}

-- Pushes may leave any state.
abbrev pub AnyReached : {S : Type 0} → S → S → Type 0
AnyReached s t = ⊤

-- If more bytes fit, so do fewer.
pub fewer_fit : (k m n capacity : ℕ) → k + (m + n) ≤ capacity → k + m ≤ capacity
fewer_fit k m n capacity h = omega arith

-- Once x is appended, the bytes that fitted after it still do.
pub rest_fits : (h i x : List ℕ) (n capacity : ℕ) → i ≡ h ++ x → length h + (length x + n) ≤ capacity → length i + n ≤ capacity
rest_fits h i x n capacity e r = omega (arith, ap length e, length-append h x)

module _ {S : Type 0} (held : S → List ℕ) where
  -- A flavor that grows by the allocator is lawful.
  pub grows_lawful : IsFlavor (Appended held) NoRoom AnyReached
  grows_lawful = record {
    appended_none = λ s. sym (append-nil (held s));
    appended_join = λ s t u x y p q. held_join (held s) (held t) (held u) x y p q;
    room_front = λ s x y r. r;
    room_rest = λ s t x y r p v. r;
    reaches_self = λ s. tt;
    reaches_join = λ s t u p q. tt;
    reaches_prop = λ s t. hlevel tt;
  }

  -- A flavor that grows by the allocator is a lawful storage.
  pub grows_storage : IsStorage (Appended held) NoRoom AnyReached held NoneFree
  grows_storage = record {
    held_more = λ s t x p. p;
    free_room = λ s x h. h;
    free_rest = λ s t x n h p v. h;
  }

  -- A flavor that holds up to a capacity is lawful.
  pub fixed_lawful : (capacity : ℕ) → IsFlavor (Appended held) (HasRoom held capacity) AnyReached
  fixed_lawful capacity = record {
    appended_none = λ s. sym (append-nil (held s));
    appended_join = λ s t u x y p q. held_join (held s) (held t) (held u) x y p q;
    room_front = λ s x y r. fits_front (length (held s)) capacity x y r;
    room_rest = λ s t x y r p v. fits_rest (held s) (held t) capacity x y p r;
    reaches_self = λ s. tt;
    reaches_join = λ s t u p q. tt;
    reaches_prop = λ s t. hlevel tt;
  }

  -- The free bytes of a flavor that holds up to a capacity keep the laws of `free`.
  pub fixed_free : (capacity : ℕ) → IsFree (HasFreeUpTo held capacity)
  fixed_free capacity = record {
    free_fewer = λ s m n h. fewer_fit (length (held s)) m n capacity h;
    free_prop = λ s n. hlevel le_prop;
  }

  -- A flavor that holds up to a capacity is a lawful storage.
  pub fixed_storage : (capacity : ℕ) → IsStorage (Appended held) (HasRoom held capacity) AnyReached held (HasFreeUpTo held capacity)
  fixed_storage capacity = record {
    held_more = λ s t x p. p;
    free_room = λ s x h. h;
    free_rest = λ s t x n h p v. rest_fits (held s) (held t) x n capacity p h;
  }

-- A list may be read at each of its places, and shows the byte there.
pub list_indexed : IsIndexed (λ (s : List ℕ) place. place < length s) (λ s place byte. byte ≡ slice_index s place) (λ s. s)
list_indexed = record {
  can_read = λ s place h. h;
  reads = λ s place byte h e. e;
}
