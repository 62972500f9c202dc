-- The path of each line. The code keeps a list of open parts. A part that is less deep than a line is around it, and says how many steps
-- its path has.
use Rattle.std.proofs.Common.{◌≡◌, ℕ, ◌+◌, ◌-◌, ◌<◌, ◌≤◌, inl, inr, Bool, true, false, List, [], ◌∷◌, ◌++◌, length, take, drop, get_or, refl, sym, ap, ◌∙◌, arith, length-append}
use Rattle.std.specs.Prelude.{if◌then◌else◌, nat_lt}
use Rattle.std.proofs.lemmas.Bool.{cases_lt, lt-ltb, le-ltb, ltb-false, ltb-true}
use Rattle.std.proofs.lemmas.List.{length-take-le, take-append-drop, take-append-le, take_all, take_more}
use Rattle.postcard_schema.specs.Paths.{PlainStep, plain_path}
use Rattle.postcard_explain.specs.declared.line.Line.{Line}
use Rattle.pcard_explain.specs.Places.{Follows, IsOn, around_in, kind_steps, label_steps, last_steps, path_around, steps_in}
use Rattle.pcard_explain.specs.declared.place.Open.{Open}
use Rattle.pcard_explain.specs.declared.place.Place.{Place}

-- ---- open parts

-- With one more open part at the end, the number of steps around a line is that part's if it is less deep, and else as before.
last_more : (found : ℕ) (xs : List Open) (o : Open) (d : ℕ) → last_steps found (xs ++ o ∷ []) d ≡ (if nat_lt o.depth d then o.steps else last_steps found xs d)
last_more found [] o d = refl
last_more found (x ∷ xs) o d = last_more (if nat_lt x.depth d then x.steps else found) xs o d

-- If the last open part isn't less deep than the line, it doesn't change the number of steps around the line.
pub not_around : (xs : List Open) (o : Open) (d depth : ℕ) → depth ≤ o.depth → d ≤ depth → steps_in (xs ++ o ∷ []) d ≡ steps_in xs d
not_around xs o d depth deep low =
    let no : nat_lt o.depth d ≡ false = le-ltb o.depth d (omega arith) in
    last_more 0 xs o d ∙ ap (λ (b : Bool). if b then o.steps else steps_in xs d) no

-- If the last open part is less deep than the line, the number of steps around the line is that part's.
pub is_around : (xs : List Open) (o : Open) (d : ℕ) → o.depth < d → steps_in (xs ++ o ∷ []) d ≡ o.steps
is_around xs o d less =
    let yes : nat_lt o.depth d ≡ true = lt-ltb o.depth d less in
    last_more 0 xs o d ∙ ap (λ (b : Bool). if b then o.steps else steps_in xs d) yes

-- A list that isn't empty is all its parts but the last, and then the last.
last_is : (xs : List Open) (o : Open) → 0 < length xs → o ≡ get_or xs (length xs - 1) o → take (length xs - 1) xs ++ o ∷ [] ≡ xs
last_is xs o some is =
    let i = length xs - 1 in
    ap (λ (p : Open). take i xs ++ p ∷ []) is ∙ sym (take_more xs i o (omega arith)) ∙ take_all (i + 1) xs (omega arith)

-- Removing the last open part doesn't change the number of steps around a line that isn't deeper than it.
pub one_fewer : (xs : List Open) (o : Open) (d depth : ℕ) → 0 < length xs → o ≡ get_or xs (length xs - 1) o → depth ≤ o.depth → d ≤ depth
    → steps_in (take (length xs - 1) xs) d ≡ steps_in xs d
one_fewer xs o d depth some is deep low =
    sym (not_around (take (length xs - 1) xs) o d depth deep low) ∙ ap (λ (ys : List Open). steps_in ys d) (last_is xs o some is)

-- If the last of a list of open parts is less deep than the line, its number of steps is that around the line.
pub last_around : (xs : List Open) (o : Open) (d : ℕ) → 0 < length xs → o ≡ get_or xs (length xs - 1) o → o.depth < d → o.steps ≡ steps_in xs d
last_around xs o d some is less =
    sym (is_around (take (length xs - 1) xs) o d less) ∙ ap (λ (ys : List Open). steps_in ys d) (last_is xs o some is)

-- ---- the path of a line

-- The first j of the first k steps and others are the first j of all steps, if j ≤ k.
take_fewer : (j k : ℕ) (xs ys : List PlainStep) → j ≤ k → k ≤ length xs → take j (take k xs ++ ys) ≡ take j xs
take_fewer j k xs ys low fits =
    let here : j ≤ length (take k xs) = omega (arith, length-take-le k xs fits) in
    take-append-le j (take k xs) ys here ∙ sym (take-append-le j (take k xs) (drop k xs) here) ∙ ap (λ (zs : List PlainStep). take j zs) (take-append-drop k xs)

-- If the steps around the line are kept, and the path is these and the line's own step, the place is on the line.
pub reached : (old new : Place) (seen : List Line) (line : Line) → Follows old seen
    → ((d : ℕ) → d ≤ line.depth → steps_in new.parts.items d ≡ steps_in old.parts.items d)
    → plain_path new.path ≡ take (steps_in old.parts.items line.depth) (plain_path old.path) ++ label_steps line.label → IsOn new seen line
reached old new seen line before same path =
    let so = before line.depth in
    let k = steps_in old.parts.items line.depth in
    let fits : k ≤ length (plain_path old.path) = so.within line.depth (omega arith) in
    let kept : length (take k (plain_path old.path)) ≡ k = length-take-le k (plain_path old.path) fits in
    record {
      path = path ∙ ap (λ (p : List PlainStep). p ++ label_steps line.label) (so.around line.depth (omega arith));
      around = record {
        around = λ d low.
            rw (path, same d low) (take_fewer (steps_in old.parts.items d) k (plain_path old.path) (label_steps line.label) (so.rising d line.depth low (omega arith)) fits ∙ so.around d low);
        rising = λ d e low high. rw (same d (omega arith), same e high) (so.rising d e low high);
        within = λ d low.
            rw (path, same d low)
            (omega (arith, so.rising d line.depth low (omega arith), kept, length-append (take k (plain_path old.path)) (label_steps line.label)));
      };
    }

-- ---- the next line

-- If the part of a line is opened and its step added to the path, the place follows the lines up to this one.
pub entered : (old new : Place) (seen : List Line) (line : Line) (o : Open) → IsOn old seen line → new.parts.items ≡ old.parts.items ++ o ∷ []
    → o.depth ≡ line.depth → plain_path new.path ≡ plain_path old.path ++ kind_steps line.kind → o.steps ≡ length (plain_path new.path) → Follows new (line ∷ seen)
entered old new seen line o on added deep path steps limit = record {
  around = λ d low. around d;
  rising = λ d e low high. rising d e low;
  within = λ d low. within d;
} where
  p : List PlainStep
  p = plain_path old.path

  shallow : (d : ℕ) → d ≤ line.depth → steps_in new.parts.items d ≡ steps_in old.parts.items d
  shallow d low = rw added (not_around old.parts.items o d line.depth (omega arith) low)

  deeper : (d : ℕ) → line.depth < d → steps_in new.parts.items d ≡ length (plain_path new.path)
  deeper d high = rw added (is_around old.parts.items o d (omega arith)) ∙ steps

  longer : length p ≤ length (plain_path new.path)
  longer = rw path (omega (arith, length-append p (kind_steps line.kind)))

  within : (d : ℕ) → steps_in new.parts.items d ≤ length (plain_path new.path)
  within d = elim (cases_lt line.depth d) [
    | inl high ↦ omega (arith, deeper d high)
    | inr low ↦ omega (arith, shallow d low, on.around.within d low, longer)
  ]

  rising : (d e : ℕ) → d ≤ e → steps_in new.parts.items d ≤ steps_in new.parts.items e
  rising d e low = elim (cases_lt line.depth e) [
    | inl high ↦ omega (arith, deeper e high, within d)
    | inr here ↦ omega (arith, shallow d (omega arith), shallow e here, on.around.rising d e low here)
  ]

  choice : ℕ → Bool → List PlainStep
  choice d b = if b then path_around seen line.depth ++ label_steps line.label ++ kind_steps line.kind else path_around seen d

  by_depth : (d : ℕ) (b : Bool) → nat_lt line.depth d ≡ b → around_in new d ≡ choice d b
  by_depth d true less =
      ap (λ (n : ℕ). take n (plain_path new.path)) (deeper d (ltb-true line.depth d less)) ∙ take_all (length (plain_path new.path)) (plain_path new.path) (omega arith)
      ∙ path ∙ ap (λ (q : List PlainStep). q ++ kind_steps line.kind) on.path
  by_depth d false other =
      let low : d ≤ line.depth = ltb-false line.depth d other in
      ap (λ (n : ℕ). take n (plain_path new.path)) (shallow d low) ∙ ap (λ (q : List PlainStep). take (steps_in old.parts.items d) q) path
      ∙ take-append-le (steps_in old.parts.items d) p (kind_steps line.kind) (on.around.within d low) ∙ on.around.around d low

  around : (d : ℕ) → around_in new d ≡ path_around (line ∷ seen) d
  around d = by_depth d (nat_lt line.depth d) refl
