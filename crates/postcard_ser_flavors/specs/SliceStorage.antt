-- Why a slice that is filled is a storage. The lemmas are here since ghost members cite them.
use Rattle.std.proofs.Common.{◌≡◌, ℕ, ◌+◌, ◌<◌, ◌≤◌, List, length, take, sym, ◌∙◌, length-take, arith}
use Rattle.std.proofs.lemmas.List.{get_or-take}
use Rattle.std.specs.Coded.{le_prop}
use Rattle.std.specs.Prelude.{slice_index}
use Rattle.postcard_ser_flavors.specs.Held.{fewer_fit, rest_fits}
use Rattle.postcard_ser_flavors.specs.Slice.{Written, held, Appended, HasRoom, Reaches}
use Rattle.postcard_ser_flavors.specs.Storage.{IsFree, IsStorage, IsIndexed}

-- After the bytes held there are at least n.
abbrev pub HasFree : Written → ℕ → Type 0
HasFree s n = length (held s) + n ≤ length s.buffer

-- The free bytes of a slice keep the laws of `free`.
pub slice_free : IsFree HasFree
slice_free = record {
  free_fewer = λ s m n h. fewer_fit (length (held s)) m n (length s.buffer) h;
  free_prop = λ s n. hlevel le_prop;
}

-- A slice that is filled is a lawful storage.
pub slice_storage : IsStorage Appended HasRoom Reaches held HasFree
slice_storage = record {
  held_more = λ s t x p. p;
  free_room = λ s x h. h;
  free_rest = λ s t x n h p v. rw v.same_length (rest_fits (held s) (held t) x n (length s.buffer) p h);
}

-- A place in a front of n elements is below n.
pub below : (n i : ℕ) (xs : List ℕ) → i < length (take n xs) → i < n
below n i xs h = omega (arith, length-take n xs)

-- A place in a front of a list is a place of the list.
pub inside : (n i : ℕ) (xs : List ℕ) → i < length (take n xs) → i < length xs
inside n i xs h = omega (arith, length-take n xs)

-- A place that is held is inside the whole slice, and its byte is the one there.
pub slice_indexed : IsIndexed (λ s i. i < length s.buffer) (λ s i b. b ≡ slice_index s.buffer i) held
slice_indexed = record {
  can_read = λ s i h. inside s.count i s.buffer h;
  reads = λ s i b h e. e ∙ sym (get_or-take s.count s.buffer i 0 (below s.count i s.buffer h));
}
