-- Lemmas for `refused_at`: in which part reading a value stops. They lead from a whole to the first of its parts that can't be read.
use Rattle.std.proofs.Common.{◌≡◌, ℕ, ◌+◌, ◌<◌, ◌^◌, inl, inr, List, [], ◌∷◌, ◌++◌, length, Option, None, Some, sym, ap, ◌∙◌, arith, append_assoc, append-nil, length-append}
use Rattle.std.specs.Prelude.{Box}
use Rattle.std.specs.Borrow.{Bor}
use Rattle.std.specs.declared.alloc.Global.{Global}
use Rattle.postcard_wire.specs.Number.{SpellsNum}
use Rattle.postcard_schema.specs.declared.schema.Schema.TheVariants as schemas
use Rattle.postcard_schema.specs.Lemmas.{type_of_array, type_of_map, type_of_seq}
use Rattle.postcard_value.specs.{Element, HasNoFront, Part, Schema, Step, type_of}
use Rattle.postcard_value.specs.Refused.{Entered, StopsAt, StopsHere, here, inside, Finds, FindsElement, FindsEntry, in_list, in_array, in_key, in_value}
use Rattle.postcard_value.proofs.FrontLemmas.{list_none, array_none}

-- What was found among the elements was found in the list.
pub list_finds : (s : Schema) (element : Box Schema Global) (bytes count rest : List ℕ) (n : ℕ) → s ≡ schemas.Seq element → bytes ≡ count ++ rest
    → n < 2 ^ 64
    → SpellsNum 64 n count → (old new : List Step) (found : Option (Bor Schema × Bor (List ℕ))) → FindsElement element.value n rest old new found
    → Finds s bytes old new found
list_finds s element bytes count rest n is cut few num old new None (row, same) =
    (λ none. absurd (row (list_none s _ bytes count rest n (ap type_of is ∙ type_of_seq element) cut few num none)), same)
list_finds s element bytes count rest n is cut few num old new (Some part) (i, front, low, each, more, join, lack, own) =
    let whole = cut ∙ ap (λ q. count ++ q) join ∙ sym (append_assoc count front part.1.now) in
    let entered = in_list s element n i count front is few num low each in
    rw own ((count ++ front, Element i ∷ [], entered, more, whole, λ none. rw own at lack), rw (is, type_of_seq element) (omega arith))

-- What was found among the elements was found in the array.
pub array_finds : (s : Schema) (element : Box Schema Global) (bytes : List ℕ) (n : ℕ) → s ≡ schemas.Array element n → (old new : List Step)
    (found : Option (Bor Schema × Bor (List ℕ))) → FindsElement element.value n bytes old new found → Finds s bytes old new found
array_finds s element bytes n is old new None (row, same) = (λ none. absurd (row (array_none s element bytes n is none)), same)
array_finds s element bytes n is old new (Some part) (i, front, low, each, more, join, lack, own) =
    let entered = in_array s element n i front is low each in
    rw own ((front, Element i ∷ [], entered, more, join, λ none. rw own at lack), rw (is, type_of_array element n) (omega arith))

-- What was found among the entries was found in the map.
pub map_finds : (s : Schema) (k v : Box Schema Global) (bytes count rest : List ℕ) (n : ℕ) → s ≡ schemas.Map k v → bytes ≡ count ++ rest → n < 2 ^ 64
    → SpellsNum 64 n count → (old new : List Step) (found : Option (Bor Schema × Bor (List ℕ))) → FindsEntry k.value v.value n rest old new found
    → Finds s bytes old new found
map_finds s k v bytes count rest n is cut few num old new None (row, same) =
    (λ none. absurd (row (list_none s _ bytes count rest n (ap type_of is ∙ type_of_map k v) cut few num none)), same)
map_finds s k v bytes count rest n is cut few num old new (Some part) (i, front, low, each, lack, inl (more, join, own)) =
    let whole = cut ∙ ap (λ q. count ++ q) join ∙ sym (append_assoc count front part.1.now) in
    let entered = in_key s k v n i count front is few num low each in
    rw own ((count ++ front, Element i ∷ Part 0 ∷ [], entered, more, whole, λ none. rw own at lack), rw (is, type_of_map k v) (omega arith))
map_finds s k v bytes count rest n is cut few num old new (Some part) (i, front, low, each, lack, inr (key, spelled, more, join, own)) =
    let done = front ++ key in
    let whole = cut ∙ ap (λ q. count ++ q) join ∙ sym (append_assoc count done part.1.now) in
    let entered = in_value s k v n i count front key is few num low each spelled in
    rw own ((count ++ done, Element i ∷ Part 1 ∷ [], entered, more, whole, λ none. rw own at lack), rw (is, type_of_map k v) (omega arith))

-- What was found, where it is known which of both it is.
pub some_found : (s : Schema) (bytes : List ℕ) (old new : List Step) (found : Option (Bor Schema × Bor (List ℕ))) (part : Bor Schema × Bor (List ℕ))
    → found ≡ Some part → Finds s bytes old new found → Entered s bytes old new part.0.now part.1.now
some_found s bytes old new found part is h = (rw is at h).0

-- If nothing is found, reading stops at the first node of the value.
pub none_found : (s : Schema) (bytes : List ℕ) (old new : List Step) (found : Option (Bor Schema × Bor (List ℕ))) → found ≡ None
    → Finds s bytes old new found
    → (HasNoFront s bytes → StopsHere s bytes) × (new ≡ old)
none_found s bytes old new found is h = rw is at h

-- Suppose that reading the whole value s stops where reading its part x stops. Then the same holds of each part of x, and of the first node
-- of x.
module _ (s x : Schema) (bytes done rest : List ℕ) (now new : List Step)
    (so : (path : List Step) (offset : ℕ) → StopsAt x rest path offset → StopsAt s bytes (now ++ path) (length done + offset)) where
  pub stops_inside : (y : Schema) (after : List ℕ) (d : Entered x rest now new y after) (path : List Step) (offset : ℕ) → StopsAt y after path offset
      → StopsAt s bytes (new ++ path) (length (done ++ d.0) + offset)
  stops_inside y after (front, steps, enters, more, join, lack) path offset stops =
      let total : length (done ++ front) + offset ≡ length done + (length front + offset) = omega (arith, length-append done front) in
      rw (more, append_assoc now steps path, total) (so (steps ++ path) (length front + offset)
      (inside x y rest front after steps path offset enters join stops))

  pub stops_here : (offset : ℕ) → StopsHere x rest → new ≡ now → offset ≡ length done + 0 → StopsAt s bytes new offset
  stops_here offset h same size = rw (same, size) (rw append-nil at (so [] 0 (here x rest h)))
