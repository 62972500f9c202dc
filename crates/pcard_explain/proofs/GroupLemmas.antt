-- The rows of the code bytes of a frame are those of its groups.
use Rattle.std.proofs.Common.{◌≡◌, ℕ, ◌+◌, ◌-◌, ◌<◌, ◌≤◌, inl, inr, Bool, true, false, List, [], ◌∷◌, ◌++◌, length, refl, sym, ap, ◌∙◌, arith, length-append}
use Rattle.std.specs.Prelude.{◌&&◌, not, eqb, nat_lt, flat_map}
use Rattle.std.proofs.lemmas.Bool.{cases_eq, eq-eqb, lt-ltb, le-ltb, ne_eqb}
use Rattle.std.proofs.lemmas.List.{append-nil, append_assoc}
use Rattle.postcard_cobs.specs.Groups.{AreGroups, IsGroupData, coded}
use Rattle.pcard_explain.specs.Laws.{group_notes}
use Rattle.pcard_explain.specs.Notes.{Noted, code, frame_notes, has_zero}
use Rattle.pcard_explain.proofs.RowLemmas.{in_group}

-- The bytes of a group have no rows: the rows from its first byte on are those from the byte after it on.
skipped : (at : ℕ) (group rest : List ℕ) → frame_notes at (length group) (group ++ rest) ≡ frame_notes (at + length group) 0 rest
skipped at [] rest =
    let same : at ≡ at + 0 = omega arith in
    ap (λ (n : ℕ). frame_notes n 0 rest) same
skipped at (b ∷ group) rest =
    let fewer : length (b ∷ group) - 1 ≡ length group = omega arith in
    let along : at + 1 + length group ≡ at + length (b ∷ group) = omega arith in
    in_group at (length (b ∷ group)) b (group ++ rest) (omega arith) ∙ ap (λ (n : ℕ). frame_notes (at + 1) n (group ++ rest)) fewer ∙ skipped (at + 1) group rest
    ∙ ap (λ (n : ℕ). frame_notes n 0 rest) along

-- The rows from a group's code byte on are the row of that byte, and then those after the group.
group_shown : (at : ℕ) (group rest : List ℕ) (zero : Bool) → has_zero (length group + 1) (length (group ++ rest)) ≡ zero
    → frame_notes at 0 (coded group ++ rest)
    ≡ record { at = at; bytes = (length group + 1) ∷ []; note = code (length group + 1) zero } ∷ frame_notes (at + (length group + 1)) 0 rest
group_shown at group rest zero is =
    let row : Bool → Noted = λ (z : Bool). record { at = at; bytes = (length group + 1) ∷ []; note = code (length group + 1) z } in
    let first = row (has_zero (length group + 1) (length (group ++ rest))) in
    let fewer : length group + 1 - 1 ≡ length group = omega arith in
    let along : at + 1 + length group ≡ at + (length group + 1) = omega arith in
    ap (λ (n : ℕ). first ∷ frame_notes (at + 1) n (group ++ rest)) fewer ∙ ap (λ (rows : List Noted). first ∷ rows) (skipped (at + 1) group rest)
    ∙ ap (λ (n : ℕ). first ∷ frame_notes n 0 rest) along ∙ ap (λ (z : Bool). row z ∷ frame_notes (at + (length group + 1)) 0 rest) is

-- ---- zeros

-- `false` and a condition are never both true.
never : (b : Bool) → (b && false) ≡ false
never true = refl
never false = refl

-- The last group has no zero after it. A code byte below 255 stands for a zero after its group, unless the frame ends there.
no_zero : (group : List ℕ) → has_zero (length group + 1) (length (group ++ [])) ≡ false
no_zero group =
    let none : nat_lt (length group + 1 - 1) (length (group ++ [])) ≡ false = le-ltb (length group + 1 - 1) (length (group ++ [])) (omega (arith, length-append group [])) in
    ap (λ (b : Bool). nat_lt (length group + 1) 255 && b) none ∙ never (nat_lt (length group + 1) 255)

-- A group that another follows has a zero after it exactly if it isn't full, which is 254 bytes.
a_zero : (group rest : List ℕ) → length group ≤ 254 → 0 < length rest → has_zero (length group + 1) (length (group ++ rest)) ≡ not (eqb (length group) 254)
a_zero group rest fits some = elim (cases_eq (length group) 254) [
  | inl full ↦
      let no : nat_lt (length group + 1) 255 ≡ false = le-ltb (length group + 1) 255 (omega arith) in
      ap (λ (b : Bool). b && nat_lt (length group + 1 - 1) (length (group ++ rest))) no ∙ sym (ap not (eq-eqb (length group) 254 full))
  | inr other ↦
      let yes : nat_lt (length group + 1) 255 ≡ true = lt-ltb (length group + 1) 255 (omega arith) in
      let more : nat_lt (length group + 1 - 1) (length (group ++ rest)) ≡ true = lt-ltb (length group + 1 - 1) (length (group ++ rest)) (omega (arith, length-append group rest)) in
      ap (λ (b : Bool). b && nat_lt (length group + 1 - 1) (length (group ++ rest))) yes ∙ more ∙ sym (ap not (ne_eqb (length group) 254 other))
]

-- ---- frames

-- The rows of a frame are those of its groups, one after another.
pub groups_shown : (at : ℕ) (groups : List (List ℕ)) (last : List ℕ) → AreGroups groups → IsGroupData last
    → frame_notes at 0 (flat_map coded groups ++ coded last) ≡ group_notes at groups last
groups_shown at [] last are is =
    ap (λ (f : List ℕ). frame_notes at 0 f) (sym (append-nil (coded last))) ∙ group_shown at last [] false (no_zero last)
groups_shown at (group ∷ groups) last are is =
    let rest = flat_map coded groups ++ coded last in
    let some : 0 < length rest = omega (arith, length-append (flat_map coded groups) (coded last)) in
    let zero = not (eqb (length group) 254) in
    let row : Noted = record { at = at; bytes = (length group + 1) ∷ []; note = code (length group + 1) zero } in
    ap (λ (f : List ℕ). frame_notes at 0 f) (append_assoc (coded group) (flat_map coded groups) (coded last))
    ∙ group_shown at group rest zero (a_zero group rest are.0.fits some) ∙ ap (λ (rows : List Noted). row ∷ rows) (groups_shown (at + (length group + 1)) groups last are.1 is)
