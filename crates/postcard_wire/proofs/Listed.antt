-- The trees of a list, written or read one by one.
use Rattle.std.proofs.Common.{◌≡◌, ℕ, suc, ◌+◌, ◌<◌, ◌≤◌, List, [], ◌∷◌, ◌++◌, length, map, take, get_or, refl, sym, ap, ap₂, ◌∙◌, append_assoc, append-nil}
use Rattle.std.proofs.lemmas.List.{take_more, take_all, map_push, length-map}
use Rattle.postcard_wire.specs.Number.{digits}
use Rattle.postcard_wire.specs.Reading.{Each}
use Rattle.postcard_wire.specs.Spelling.{Spells, SpellsAll, canonical, canonical_all}
use Rattle.postcard_wire.specs.Tree.{Tree, Seq, count, trees}

-- A list of trees makes a row of the same number of trees.
pub count-trees : (ts : List Tree) → count (trees ts) ≡ length ts
count-trees [] = refl
count-trees (t ∷ ts) = ap suc (count-trees ts)

-- The canonical encoding of one tree more is appended to that of the others.
pub canonical_all-push : (ts : List Tree) (t : Tree) → canonical_all (trees (ts ++ t ∷ [])) ≡ canonical_all (trees ts) ++ canonical t
canonical_all-push [] t = append-nil (canonical t)
canonical_all-push (s ∷ ts) t = ap (λ (l : List ℕ). canonical s ++ l) (canonical_all-push ts t) ∙ sym (append_assoc (canonical s) (canonical_all (trees ts)) (canonical t))

-- A spelling of one tree more is appended to those of the others.
pub SpellsAll-push : (ts : List Tree) (t : Tree) (p q : List ℕ) → SpellsAll (trees ts) p → Spells t q → SpellsAll (trees (ts ++ t ∷ [])) (p ++ q)
SpellsAll-push [] t p q s r = (q, [], r, refl, ap (λ (l : List ℕ). l ++ q) s ∙ sym (append-nil q))
SpellsAll-push (u ∷ ts) t p q s r =
    (s.0, s.1 ++ q, s.2, SpellsAll-push ts t s.1 q s.3 r, ap (λ (l : List ℕ). l ++ q) s.4 ∙ append_assoc s.0 s.1 q)

-- A tree of the set appended to trees of the set makes trees of the set.
pub Each-push : (reads : Tree → Type 0) (ts : List Tree) (t : Tree) → Each reads (trees ts) → reads t → Each reads (trees (ts ++ t ∷ []))
Each-push reads [] t e r = (r, tt)
Each-push reads (u ∷ ts) t e r = (e.0, Each-push reads ts t e.1 r)

-- One turn of the loop that writes a list. Before the list come what was there (start) and the digits
-- of its length (d). If the first i elements were written, and then the next one, x, the first i + 1
-- are written.
pub written_more : {X : Type 0} (f : X → Tree) (xs : List X) (i : ℕ) (x : X) (start d mid new : List ℕ)
    → mid ≡ start ++ (d ++ canonical_all (trees (map f (take i xs)))) → new ≡ mid ++ canonical (f x) → i < length xs → x ≡ get_or xs i x
    → new ≡ start ++ (d ++ canonical_all (trees (map f (take (i + 1) xs))))
written_more {X} f xs i x start d mid new e g h k =
    let m : map f (take (i + 1) xs) ≡ map f (take i xs) ++ f x ∷ [] =
    ap (λ (l : List X). map f l) (take_more xs i x h ∙ ap (λ (y : X). take i xs ++ y ∷ []) (sym k)) ∙ map_push f (take i xs) x in
    let b = ap (λ (l : List Tree). canonical_all (trees l)) m ∙ canonical_all-push (map f (take i xs)) (f x) in
    g ∙ (ap (λ (l : List ℕ). l ++ canonical (f x)) e ∙ (append_assoc start _ (canonical (f x)) ∙ ap (λ (l : List ℕ). start ++ l) (append_assoc d _ (canonical (f x)) ∙ ap (λ (l : List ℕ). d ++ l) (sym b))))

-- The end of that loop: with all elements written, the list's canonical encoding was appended.
pub written_all : {X : Type 0} (f : X → Tree) (xs : List X) (i : ℕ) (start new : List ℕ)
    → new ≡ start ++ (digits (length xs) ++ canonical_all (trees (map f (take i xs)))) → length xs ≤ i → new ≡ start ++ canonical (Seq (trees (map f xs)))
written_all {X} f xs i start new e h =
    let n : length xs ≡ count (trees (map f xs)) = sym (count-trees (map f xs) ∙ length-map xs f) in
    e ∙ ap (λ (l : List ℕ). start ++ l) (ap₂ (λ (n : ℕ) (l : List X). digits n ++ canonical_all (trees (map f l))) n (take_all i xs h))
