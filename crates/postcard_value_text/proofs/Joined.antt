-- Lemmas on texts that are joined one by one, and on writing them.
use Rattle.std.proofs.Common.{◌≡◌, ℕ, zero, suc, ◌+◌, ◌/◌, ◌%◌, ◌<◌, false, List, [], ◌∷◌, ◌++◌, map, length, take, get_or, Option, Some, None, refl, sym, ap, ◌∙◌, arith}
use native.Mathlib.Numerals.{add-one}
use Rattle.std.proofs.Output.{then_text_assoc, displays_on_IsOk_append, displays_on_ok_of_eq, displays_on_ok_of_all, writes_on_IsOk-append}
use Rattle.std.proofs.lemmas.Grind.{common_steps}
use Rattle.std.proofs.lemmas.List.{append-nil, append_assoc}
use Rattle.std.specs.Fmt.{◌++?◌, digits, WritesOnOk, DisplaysOnOk}
use Rattle.std.specs.Prelude.{Result, Ok, Err, IsErr}
use Rattle.std.specs.declared.fmt.Error.{Error}
use Rattle.std.specs.declared.fmt.Formatter.{Formatter}
use Rattle.postcard_wire.specs.Tree.{Tree, Byte, NoTrees, trees}
use Rattle.postcard_value_text.specs.Shown.{Printer, lead, each_after, joined, all_by, each_by, hexadecimal, enclosed}

-- An empty text before or after another changes nothing.
pub none_before : (o : Option (List ℕ)) → Some [] ++? o ≡ o
none_before None = refl
none_before (Some a) = refl

pub none_after : (o : Option (List ℕ)) → o ++? Some [] ≡ o
none_after None = refl
none_after (Some a) = ap Some (append-nil a)

-- One more part after others adds a separator and its text.
followed_more : (b : List ℕ) (xs : List (Option (List ℕ))) (x : Option (List ℕ)) → each_after b (xs ++ x ∷ []) ≡ each_after b xs ++? (Some b ++? x)
followed_more b [] x = ap (λ o. Some b ++? o) (none_after x) ∙ sym (none_before (Some b ++? x))
followed_more b (y ∷ ys) x =
    ap (λ o. Some b ++? (y ++? o)) (followed_more b ys x) ∙ sym (then_text_assoc (Some b) (y ++? each_after b ys) (Some b ++? x) ∙ ap (λ o. Some b ++? o) (then_text_assoc y (each_after b ys) (Some b ++? x)))

-- One text more in a row: the separator, but not before the first, and the text.
pub joined_more : (b : List ℕ) (xs : List (Option (List ℕ))) (x : Option (List ℕ)) → joined b (xs ++ x ∷ []) ≡ joined b xs ++? (Some (lead (length xs) b) ++? x)
joined_more b [] x = none_after x ∙ sym (none_before (Some [] ++? x) ∙ none_before x)
joined_more b (y ∷ ys) x = ap (λ o. y ++? o) (followed_more b ys x) ∙ sym (then_text_assoc y (each_after b ys) (Some b ++? x))

-- The texts of the trees of values are those of the values, one by one.
pub all_by_trees : {X : Type 0} (see : X → Tree) (p : Printer) (vs : List X) → all_by p (trees (map see vs)) ≡ map (λ v. p (see v)) vs
all_by_trees see p [] = refl
all_by_trees see p (v ∷ vs) = ap (λ ts. p (see v) ∷ ts) (all_by_trees see p vs)

-- Mapping one element more adds its image.
map_more : {X Y : Type 0} (h : X → Y) (vs : List X) (i : ℕ) (v : X) → i < length vs → v ≡ get_or vs i v
    → map h (take (i + 1) vs) ≡ map h (take i vs) ++ h v ∷ []
map_more h vs i v low is = grind (arith, common_steps, low, is)

map_length : {X Y : Type 0} (h : X → Y) (vs : List X) (i : ℕ) → i < length vs → length (map h (take i vs)) ≡ i
map_length h vs i low = grind (arith, common_steps, low)

-- The text of one element more is the text so far, what leads the element, and the element's text.
pub elements_more : {X : Type 0} (b : List ℕ) (h : X → Option (List ℕ)) (vs : List X) (i : ℕ) (v : X) → i < length vs → v ≡ get_or vs i v
    → joined b (map h (take (i + 1) vs)) ≡ joined b (map h (take i vs)) ++? (Some (lead i b) ++? h v)
elements_more b h vs i v low is =
    ap (joined b) (map_more h vs i v low is)
    ∙ joined_more b (map h (take i vs)) (h v)
    ∙ ap (λ n. joined b (map h (take i vs)) ++? (Some (lead n b) ++? h v)) (map_length h vs i low)

-- The same of elements whose trees are printed.
pub items_more : {X : Type 0} (b : List ℕ) (see : X → Tree) (p : Printer) (vs : List X) (i : ℕ) (v : X) → i < length vs → v ≡ get_or vs i v
    → joined b (all_by p (trees (map see (take (i + 1) vs)))) ≡ joined b (all_by p (trees (map see (take i vs)))) ++? (Some (lead i b) ++? p (see v))
items_more {X} b see p vs i v low is =
    let h : X → Option (List ℕ) = λ x. p (see x) in
    ap (joined b) (all_by_trees see p (take (i + 1) vs))
    ∙ elements_more b h vs i v low is
    ∙ ap (λ ts. joined b ts ++? (Some (lead i b) ++? h v)) (sym (all_by_trees see p (take i vs)))

-- No trees have no texts.
pub each_none : (ps : List Printer) → each_by ps NoTrees ≡ []
each_none [] = refl
each_none (p ∷ ps) = refl

-- One part more, where each part has its own printer, adds its text.
each_more : {S X : Type 0} (by : S → Printer) (see : X → Tree) (ss : List S) (vs : List X) (i : ℕ) (s : S) (v : X) → i < length ss → i < length vs
    → s ≡ get_or ss i s → v ≡ get_or vs i v
    → each_by (map by ss) (trees (map see (take (suc i) vs))) ≡ each_by (map by ss) (trees (map see (take i vs))) ++ by s (see v) ∷ []
each_more by see [] vs i s v few low is here = absurd (omega (arith, few))
each_more by see (r ∷ ss) [] i s v few low is here = absurd (omega (arith, low))
each_more by see (r ∷ ss) (u ∷ us) zero s v few low is here = ap (λ ys. by r (see u) ∷ ys) (each_none (map by ss)) ∙ rw (is, here) refl
each_more by see (r ∷ ss) (u ∷ us) (suc i) s v few low is here = ap (λ ys. by r (see u) ∷ ys) (each_more by see ss us i s v (omega (arith, few)) (omega (arith, low)) is here)

each_length : {S X : Type 0} (by : S → Printer) (see : X → Tree) (ss : List S) (vs : List X) (i : ℕ) → i < length ss → i < length vs
    → length (each_by (map by ss) (trees (map see (take i vs)))) ≡ i
each_length by see [] vs i few low = absurd (omega (arith, few))
each_length by see (r ∷ ss) [] i few low = absurd (omega (arith, low))
each_length by see (r ∷ ss) (u ∷ us) zero few low = refl
each_length by see (r ∷ ss) (u ∷ us) (suc i) few low = ap suc (each_length by see ss us i (omega (arith, few)) (omega (arith, low)))

-- The text of one part more is the text so far, what leads the part, and the part's text.
pub parts_more : {S X : Type 0} (b : List ℕ) (by : S → Printer) (see : X → Tree) (ss : List S) (vs : List X) (i : ℕ) (s : S) (v : X) → i < length ss → i < length vs
    → s ≡ get_or ss i s → v ≡ get_or vs i v
    → joined b (each_by (map by ss) (trees (map see (take (i + 1) vs)))) ≡ joined b (each_by (map by ss) (trees (map see (take i vs)))) ++? (Some (lead i b) ++? by s (see v))
parts_more b by see ss vs i s v few low is here =
    rw (add-one i) (ap (joined b) (each_more by see ss vs i s v few low is here)
    ∙ joined_more b (each_by (map by ss) (trees (map see (take i vs)))) (by s (see v))
    ∙ ap (λ n. joined b (each_by (map by ss) (trees (map see (take i vs)))) ++? (Some (lead n b) ++? by s (see v))) (each_length by see ss vs i few low))

-- The two digits of a byte; the digits of one byte more are those so far and these.
abbrev digits_of : ℕ → List ℕ
digits_of b = digits 16 false (b / 16) ++ digits 16 false (b % 16)

hexadecimal_next : (bs : List ℕ) (i : ℕ) → i < length bs → hexadecimal (trees (map Byte (take (suc i) bs))) ≡ hexadecimal (trees (map Byte (take i bs))) ++ digits_of (get_or bs i 0)
hexadecimal_next [] i low = absurd (omega (arith, low))
hexadecimal_next (c ∷ bs) zero low = append-nil (digits_of c)
hexadecimal_next (c ∷ bs) (suc i) low =
    ap (λ t. digits_of c ++ t) (hexadecimal_next bs i (omega (arith, low))) ∙ sym (append_assoc (digits_of c) (hexadecimal (trees (map Byte (take i bs)))) (digits_of (get_or bs i 0)))

-- One byte more adds its two digits.
pub hexadecimal_more : (bs : List ℕ) (i : ℕ) → i < length bs
    → hexadecimal (trees (map Byte (take (i + 1) bs))) ≡ hexadecimal (trees (map Byte (take i bs))) ++ (digits 16 false (get_or bs i 0 / 16) ++ digits 16 false (get_or bs i 0 % 16))
hexadecimal_more bs i low = rw (add-one i) (hexadecimal_next bs i low)

module _ {W : Type 0} (took : W → List ℕ → W → Type 0) where
  -- Writing some parts, what leads the next part, and that part writes the longer row.
  pub part_more : (f g h k : Formatter W) (before part : Option (List ℕ)) (front : List ℕ)
      → DisplaysOnOk took f (Ok tt) before g → WritesOnOk took g (Ok tt) front h → DisplaysOnOk took h (Ok tt) part k → DisplaysOnOk took f (Ok tt) (before ++? (Some front ++? part)) k
  part_more f g h k before part front so now more =
      displays_on_IsOk_append took f g k (Ok tt) (Ok tt) before (Some front ++? part) (λ x. x) so
      (displays_on_IsOk_append took g h k (Ok tt) (Ok tt) (Some front) part (λ x. x) now more)

  -- The same after a bracket, where `after` is the text after the bracket with the part added.
  pub item_more : (f g h k : Formatter W) (opening front : List ℕ) (before part after : Option (List ℕ)) → after ≡ before ++? (Some front ++? part)
      → DisplaysOnOk took f (Ok tt) (Some opening ++? before) g → WritesOnOk took g (Ok tt) front h → DisplaysOnOk took h (Ok tt) part k
      → DisplaysOnOk took f (Ok tt) (Some opening ++? after) k
  item_more f g h k opening front before part after is so now more =
      displays_on_ok_of_eq took f k (Ok tt) _ _ (then_text_assoc (Some opening) before (Some front ++? part) ∙ ap (λ o. Some opening ++? o) (sym is))
      (part_more f g h k (Some opening ++? before) part front so now more)

  -- A call that failed promises nothing of what is written.
  pub displays_failed : (f g : Formatter W) (r : Result (Unit {0}) Error) (o : Option (List ℕ)) → IsErr r → DisplaysOnOk took f r o g
  displays_failed f g (Ok x) o bad = cc bad
  displays_failed f g (Err e) o bad = displays_on_ok_of_all took f g (Err e) o (λ bs plain ok. cc ok)

  -- Writing two texts and then a part writes them in a row.
  pub two_then : (f g h k : Formatter W) (v : Result (Unit {0}) Error) (a b : List ℕ) (o : Option (List ℕ))
      → WritesOnOk took f (Ok tt) a g → WritesOnOk took g (Ok tt) b h → DisplaysOnOk took h v o k → DisplaysOnOk took f v (Some (a ++ b) ++? o) k
  two_then f g h k v a b o one two more =
      displays_on_IsOk_append took f h k (Ok tt) v (Some (a ++ b)) o (λ x. refl) (writes_on_IsOk-append took f g h (Ok tt) (Ok tt) a b (λ x. x) one two) more

  -- Writing a text, a part and a text writes the part between them.
  pub encloses : (f g h k : Formatter W) (v : Result (Unit {0}) Error) (a b : List ℕ) (o : Option (List ℕ))
      → WritesOnOk took f (Ok tt) a g → DisplaysOnOk took g (Ok tt) o h → WritesOnOk took h v b k → DisplaysOnOk took f v (enclosed a o b) k
  encloses f g h k v a b o one two more =
      displays_on_IsOk_append took f g k (Ok tt) v (Some a) (o ++? Some b) (λ x. refl) one
      (displays_on_IsOk_append took g h k (Ok tt) v o (Some b) (λ x. refl) two more)

  -- Writing a text and then a part writes them in a row.
  pub one_then : (f g h : Formatter W) (v : Result (Unit {0}) Error) (a : List ℕ) (o : Option (List ℕ)) → WritesOnOk took f (Ok tt) a g → DisplaysOnOk took g v o h → DisplaysOnOk took f v (Some a ++? o) h
  one_then f g h v a o one more = displays_on_IsOk_append took f g h (Ok tt) v (Some a) o (λ x. refl) one more

  -- An opening bracket is what is written before the first part.
  pub parts_begin : (f g : Formatter W) (opening separator : List ℕ) (ps : List Printer) → WritesOnOk took f (Ok tt) opening g → DisplaysOnOk took f (Ok tt) (Some opening ++? joined separator (each_by ps NoTrees)) g
  parts_begin f g opening separator ps writes =
      displays_on_ok_of_eq took f g (Ok tt) _ _ (sym (ap (λ ts. Some opening ++? joined separator ts) (each_none ps) ∙ ap Some (append-nil opening))) writes

  -- Writing a part, a text and a part writes them in a row.
  pub then_more : (f g h k : Formatter W) (v : Result (Unit {0}) Error) (o : Option (List ℕ)) (a : List ℕ) (p : Option (List ℕ))
      → DisplaysOnOk took f (Ok tt) o g → WritesOnOk took g (Ok tt) a h → DisplaysOnOk took h v p k → DisplaysOnOk took f v (o ++? (Some a ++? p)) k
  then_more f g h k v o a p one two more = displays_on_IsOk_append took f g k (Ok tt) v o (Some a ++? p) (λ x. refl) one (one_then g h k v a p two more)
