-- Types with the same messages: the relation is reflexive, symmetric and transitive, and types made of such types have the same messages.
use Rattle.std.proofs.Common.{◌≡◌, ℕ, List, [], ◌∷◌, ◌∙◌, subst}
use Rattle.std.specs.List.{AllZip}
use Rattle.postcard_wire.specs.Tree.{Trees}
use Rattle.postcard_schema.specs.Meaning.{MessageType, option, seq, array, group, choice, row_of, reads, reads_all, reads_at}
use Rattle.postcard_compat.specs.Said.{Word, said, said_all, said_at}
use Rattle.postcard_compat.specs.Serving.{RowServes, SameMessages, SameRows, VariantsServe}
use Rattle.postcard_compat.proofs.Served.{itself, through, option_serves, seq_serves, array_serves, group_serves, choice_serves, end_serves, none_serve, variant_serves}

-- A type has the same messages as itself.
pub same : (x : MessageType) → SameMessages x x
same x = record { serves = itself (reads x) (said x); is_served = itself (reads x) (said x) }

-- If `x` has the messages of `y`, then `y` has those of `x`.
pub same_back : (x y : MessageType) → SameMessages x y → SameMessages y x
same_back x y h = record { serves = h.is_served; is_served = h.serves }

-- If `x` has the messages of `y`, and `y` those of `z`, then `x` has those of `z`.
pub same_after : (x y z : MessageType) → SameMessages x y → SameMessages y z → SameMessages x z
same_after x y z h k = record {
  serves = through (reads x) (said x) (reads y) (said y) (reads z) (said z) h.serves k.serves;
  is_served = through (reads z) (said z) (reads y) (said y) (reads x) (said x) k.is_served h.is_served;
}

-- If a row serves a second, and the second a third, the first serves the third.
rows_through : (P : Trees → Type 0) (f : Trees → List Word) (Q : Trees → Type 0) (g : Trees → List Word) (R : Trees → Type 0) (h : Trees → List Word)
    → RowServes P f Q g → RowServes Q g R h → RowServes P f R h
rows_through P f Q g R h one two ts r =
    let (us, q, same, spelled) = two ts r in
    let (vs, p, again, more) = one us q in
    (vs, p, again ∙ same, λ l k. more l (spelled l k))

-- If the row `xs` has the messages of `ys`, then `ys` has those of `xs`.
pub rows_back : (xs ys : List MessageType) → SameRows xs ys → SameRows ys xs
rows_back xs ys h = record { serve = h.are_served; are_served = h.serve }

-- If the row `xs` has the messages of `ys`, and `ys` those of `zs`, then `xs` has those of `zs`.
pub rows_after : (xs ys zs : List MessageType) → SameRows xs ys → SameRows ys zs → SameRows xs zs
rows_after xs ys zs h k =
    let P = reads_all (row_of xs) in
    let f = said_all (row_of xs) in
    let Q = reads_all (row_of ys) in
    let g = said_all (row_of ys) in
    let R = reads_all (row_of zs) in
    let i = said_all (row_of zs) in
    record { serve = rows_through P f Q g R i h.serve k.serve; are_served = rows_through R i Q g P f k.are_served h.are_served }

-- ---- Kinds of types

-- Options of types with the same messages have the same messages.
pub option_same : (x y : MessageType) → SameMessages x y → SameMessages (option x) (option y)
option_same x y h = record {
  serves = option_serves (reads x) (said x) (reads y) (said y) h.serves;
  is_served = option_serves (reads y) (said y) (reads x) (said x) h.is_served;
}

-- Lists of elements with the same messages have the same messages.
pub seq_same : (x y : MessageType) → SameMessages x y → SameMessages (seq x) (seq y)
seq_same x y h = record {
  serves = seq_serves (reads x) (said x) (reads y) (said y) h.serves;
  is_served = seq_serves (reads y) (said y) (reads x) (said x) h.is_served;
}

-- Arrays of one length, of elements with the same messages, have the same messages.
pub array_same : (n : ℕ) (x y : MessageType) → SameMessages x y → SameMessages (array n x) (array n y)
array_same n x y h = record {
  serves = array_serves (reads x) (said x) (reads y) (said y) h.serves n;
  is_served = array_serves (reads y) (said y) (reads x) (said x) h.is_served n;
}

-- Groups have the same messages if their rows of parts do.
pub group_same : (xs ys : List MessageType) → SameRows xs ys → SameMessages (group (row_of xs)) (group (row_of ys))
group_same xs ys h =
    let P = reads_all (row_of xs) in
    let f = said_all (row_of xs) in
    let Q = reads_all (row_of ys) in
    let g = said_all (row_of ys) in
    record { serves = group_serves P f Q g h.serve; is_served = group_serves Q g P f h.are_served }

-- If the types of two lists have the same messages one by one, so have those of the lists exchanged.
each_back : (xs ys : List MessageType) → AllZip SameMessages xs ys → AllZip SameMessages ys xs
each_back [] [] h = h
each_back [] (y ∷ ys) h = absurd h
each_back (x ∷ xs) [] h = absurd h
each_back (x ∷ xs) (y ∷ ys) h = (same_back x y h.0, each_back xs ys h.1)

-- If the types of two lists have the same messages one by one, the variants of the one serve those of the other.
each_serves : (xs ys : List MessageType) → AllZip SameMessages xs ys → VariantsServe (row_of xs) (row_of ys)
each_serves [] [] h = none_serve (row_of [])
each_serves [] (y ∷ ys) h = absurd h
each_serves (x ∷ xs) [] h = absurd h
each_serves (x ∷ xs) (y ∷ ys) h = variant_serves x y (row_of xs) (row_of ys) h.0.serves (each_serves xs ys h.1)

-- Enums have the same messages if their variants do, one by one.
pub choice_same : (xs ys : List MessageType) → AllZip SameMessages xs ys → SameMessages (choice (row_of xs)) (choice (row_of ys))
choice_same xs ys h =
    let P = reads_at (row_of xs) in
    let f = said_at (row_of xs) in
    let Q = reads_at (row_of ys) in
    let g = said_at (row_of ys) in
    record { serves = choice_serves P f Q g (each_serves xs ys h); is_served = choice_serves Q g P f (each_serves ys xs (each_back xs ys h)) }

-- Equal types have the same messages.
pub same_by : (x y : MessageType) → x ≡ y → SameMessages x y
same_by x y e = subst (λ z. SameMessages x z) e (same x)

-- Two rows without parts have the same messages.
pub no_rows_same : SameRows [] []
no_rows_same = record { serve = end_serves; are_served = end_serves }
