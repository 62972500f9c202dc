-- Lemmas on values that bytes encode, one after another. Others are on values that can't be read: if the whole can't, its next part can't.
use Rattle.std.proofs.Common.{◌≡◌, inr, ℕ, zero, suc, ◌+◌, ◌<◌, ◌≤◌, ◌^◌, List, [], ◌∷◌, ◌++◌, length, get_or, take, refl, sym, ap, subst, ◌∙◌, arith, append_assoc, append-nil}
use Rattle.std.specs.Prelude.{Vec, Box}
use Rattle.std.specs.declared.alloc.Global.{Global}
use Rattle.std.proofs.lemmas.List.{take_more}
use Rattle.postcard_wire.specs.Number.{SpellsNum}
use Rattle.postcard_wire.specs.Tree.{Tree, Trees, Num, Present, Seq, Group, Variant, NoTrees, Then, count}
use Rattle.postcard_wire.specs.Reading.{Each, IsNum}
use Rattle.postcard_shape.specs.Leaves.{num_same}
use Rattle.postcard_schema.specs.declared.schema.Named.{Named}
use Rattle.postcard_schema.specs.declared.schema.Schema.TheVariants as schemas
use Rattle.postcard_schema.specs.Bounds.{depth, greatest_depth}
use Rattle.postcard_schema.specs.Lemmas.{content_at, type_of_array, type_of_enum, type_of_option, type_of_struct, type_of_tuple}
use Rattle.postcard_schema.specs.Meaning.{group, seq}
use Rattle.postcard_value.specs.{MessageType, Schema, Spells, SpellsAll, contents, entry_of, reads, reads_all, reads_at, type_of, types_of}
use Rattle.postcard_value.specs.Fronts.{FrontSpells, HasNoFront, HasNoRow, SpellsEach, SpellsParts}

-- ---- rows of trees

-- The trees of one row, and then those of another.
abbrev join : Trees → Trees → Trees
join NoTrees ss = ss
join (Then t ts) ss = Then t (join ts ss)

-- Joined rows have as many trees as both.
count_join : (ts ss : Trees) → count (join ts ss) ≡ count ts + count ss
count_join NoTrees ss = omega arith
count_join (Then t ts) ss = omega (arith, count_join ts ss)

-- What holds of each tree of two rows holds of each of the joined row.
each_join : (R : Tree → Type 0) (ts ss : Trees) → Each R ts → Each R ss → Each R (join ts ss)
each_join R NoTrees ss a b = b
each_join R (Then t ts) ss a b = (a.0, each_join R ts ss a.1 b)

-- The encodings of two rows, joined, encode the joined row.
all_join : (ts ss : Trees) (p q : List ℕ) → SpellsAll ts p → SpellsAll ss q → SpellsAll (join ts ss) (p ++ q)
all_join NoTrees ss p q a b = rw a b
all_join (Then t ts) ss p q (x, y, s, k, e) b = (x, y ++ q, s, all_join ts ss y q k b, ap (λ r. r ++ q) e ∙ append_assoc x y q)

-- A row of one tree has the encodings of the tree.
alone : (t : Tree) (p : List ℕ) → Spells t p → SpellsAll (Then t NoTrees) p
alone t p s = (p, [], s, refl, sym (append-nil p))

-- The trees of two rows of types, joined, are those of the joined row.
reads_join : (ss us : List Schema) (a b : Trees) → reads_all (types_of ss) a → reads_all (types_of us) b → reads_all (types_of (ss ++ us)) (join a b)
reads_join [] us a b h k = rw h k
reads_join (s ∷ ss) us a b (t, ts, e, r, h) k = rw e (t, join ts b, refl, r, reads_join ss us ts b h k)

-- The bytes of values in a row and of one value more encode the longer row.
pub each_more : (t : MessageType) (n : ℕ) (tree : Tree) (done front : List ℕ) → SpellsEach t n done → reads t tree → Spells tree front
    → SpellsEach t (n + 1) (done ++ front)
each_more t n tree done front a r s =
    let one : Trees = Then tree NoTrees in
    (join a.0 one, (omega (arith, count_join a.0 one, a.1.0), each_join _ a.0 one a.1.1 (r, tt)), all_join a.0 one _ _ a.2 (alone tree _ s))

-- The key and the value of an entry are the entry.
pub entry_spelled : (k v : MessageType) (p q : List ℕ) → FrontSpells k p → FrontSpells v q → FrontSpells (entry_of k v) (p ++ q)
entry_spelled k v p q (s, r, f) (t, u, h) =
    let both : Trees = Then s (Then t NoTrees) in
    (Group both, (both, refl, (s, Then t NoTrees, refl, r, (t, NoTrees, refl, u, refl))), (p, q, f, alone t q h, refl))

-- The same for one part more of a tuple, and one field more of a struct.
pub parts_more : (ss : List Schema) (x : Schema) (done front : List ℕ) → SpellsParts ss done → FrontSpells (type_of x) front
    → SpellsParts (ss ++ x ∷ []) (done ++ front)
parts_more ss x done front a b =
    let one : Trees = Then b.0 NoTrees in
    (join a.0 one, reads_join ss (x ∷ []) a.0 one a.1 (b.0, NoTrees, refl, b.1, refl), all_join a.0 one _ _ a.2 (alone b.0 _ b.2))

-- The first i parts and part i are the first i + 1 parts.
pub part_more : (xs : List Schema) (i : ℕ) (x : Schema) (done front : List ℕ) → i < length xs → x ≡ get_or xs i x → SpellsParts (take i xs) done
    → FrontSpells (type_of x) front → SpellsParts (take (i + 1) xs) (done ++ front)
part_more xs i x done front low found d f =
    let more : take (i + 1) xs ≡ take i xs ++ x ∷ [] = take_more xs i x low ∙ ap (λ y. take i xs ++ y ∷ []) (sym found) in
    rw more (parts_more (take i xs) x done front d f)

-- The contents of joined rows are their contents joined.
contents_join : (ns ms : List (Named Schema)) → contents (ns ++ ms) ≡ contents ns ++ contents ms
contents_join [] ms = refl
contents_join (n ∷ ns) ms = ap (λ xs. n.content ∷ xs) (contents_join ns ms)

-- The first i fields and field i are the first i + 1 fields.
pub field_more : (xs : List (Named Schema)) (i : ℕ) (x : Named Schema) (done front : List ℕ) → i < length xs → x ≡ get_or xs i x
    → SpellsParts (contents (take i xs)) done
    → FrontSpells (type_of x.content) front → SpellsParts (contents (take (i + 1) xs)) (done ++ front)
field_more xs i x done front low found d f =
    let more : take (i + 1) xs ≡ take i xs ++ x ∷ [] = take_more xs i x low ∙ ap (λ y. take i xs ++ y ∷ []) (sym found) in
    rw (more, contents_join (take i xs) (x ∷ [])) (parts_more (contents (take i xs)) x.content done front d f)

-- A number that is read is in its range, and the prefix encodes it.
pub number_read : (w : ℕ) (tree : Tree) (v : ℕ) (front : List ℕ) → IsNum w tree → tree ≡ Num w v → Spells tree front
    → (v < 2 ^ w) × SpellsNum w v front
number_read w tree v front (n, is, low) e s = (rw (num_same w v n (sym e ∙ is)) low, rw e at s)

-- ---- the next part of a value that can't be read

-- If no prefix encodes the option, no prefix after its byte 1 encodes the content.
pub option_none : (s : Schema) (content : Box Schema Global) (bytes rest : List ℕ) → s ≡ schemas.Option content → bytes ≡ 1 ∷ rest
    → HasNoFront s bytes
    → HasNoFront content.value rest
option_none s content bytes rest is cut none = λ front after here f.
    none (1 ∷ front) after (cut ∙ ap (λ x. 1 ∷ x) here)
    (rw (is, type_of_option content) (Present f.0, inr (f.0, refl, f.1), (1 ∷ [], front, refl, f.2, refl)))

-- If no prefix encodes the list, no prefix after its count encodes the elements. A map is a list of entries.
pub list_none : (s : Schema) (t : MessageType) (bytes count rest : List ℕ) (n : ℕ) → type_of s ≡ seq t → bytes ≡ count ++ rest → n < 2 ^ 64
    → SpellsNum 64 n count → HasNoFront s bytes → HasNoRow t n rest
list_none s t bytes count rest n is cut low num none front after here (ts, (size, each), f) =
    none (count ++ front) after (cut ∙ ap (λ x. count ++ x) here ∙ sym (append_assoc count front after))
    (subst (λ u. FrontSpells u (count ++ front)) (sym is) (Seq ts, (ts, refl, rw size low, each), (count, front, rw size num, f, refl)))

-- If no prefix encodes the array, none encodes its elements.
pub array_none : (s : Schema) (element : Box Schema Global) (bytes : List ℕ) (n : ℕ) → s ≡ schemas.Array element n → HasNoFront s bytes
    → HasNoRow (type_of element.value) n bytes
array_none s element bytes n is none = λ front rest cut r.
    none front rest cut (rw (is, type_of_array element n) (Group r.0, (r.0, refl, r.1.0, r.1.1), r.2))

-- If a prefix encodes all parts in a row, or all fields, it encodes the tuple or the struct.
pub parts_none : (s : Schema) (ss : List Schema) (bytes front rest : List ℕ) → type_of s ≡ group (types_of ss) → bytes ≡ front ++ rest
    → SpellsParts ss front → HasNoFront s bytes → ⊥
parts_none s ss bytes front rest is cut (ts, r, f) none =
    none front rest cut (subst (λ u. FrontSpells u front) (sym is) (Group ts, (ts, refl, r), f))

-- If no prefix encodes the enum, no prefix after the variant's index encodes the variant's content.
pub variant_none : (s : Schema) (variants : Vec (Named Schema) Global) (bytes index rest : List ℕ) (i : ℕ) (x : Named Schema)
    → s ≡ schemas.Enum variants
    → i < length variants.items → x ≡ get_or variants.items i x → bytes ≡ index ++ rest → i < 2 ^ 32 → SpellsNum 32 i index → HasNoFront s bytes
    → HasNoFront x.content rest
variant_none s variants bytes index rest i x is low found cut few num none =
    let at : reads_at (types_of (contents variants.items)) i ≡ reads (type_of x.content) = content_at variants.items i x low found in
    λ front after here f.
    none (index ++ front) after (cut ∙ ap (λ y. index ++ y) here ∙ sym (append_assoc index front after))
    (rw (is, type_of_enum variants) (Variant i f.0, (i, f.0, refl, few, subst (λ P. P f.0) (sym at) f.1), (index, front, num, f.2, refl)))

-- ---- depths

-- A part of a tuple is nested at most as deeply as the deepest part.
greatest_at : (ss : List Schema) (i : ℕ) (x : Schema) → i < length ss → x ≡ get_or ss i x → depth (type_of x) ≤ greatest_depth (types_of ss)
greatest_at [] i x low e = absurd (omega (arith, low))
greatest_at (s ∷ ss) zero x low e = let same : depth (type_of x) ≡ depth (type_of s) = ap (λ y. depth (type_of y)) e in omega (arith, same)
greatest_at (s ∷ ss) (suc i) x low e = omega (arith, greatest_at ss i x (omega (arith, low)) e)

-- The same of a field or a variant.
greatest_content : (ns : List (Named Schema)) (i : ℕ) (x : Named Schema) → i < length ns → x ≡ get_or ns i x
    → depth (type_of x.content) ≤ greatest_depth (types_of (contents ns))
greatest_content [] i x low e = absurd (omega (arith, low))
greatest_content (n ∷ ns) zero x low e = let same : depth (type_of x.content) ≡ depth (type_of n.content) = ap (λ y. depth
    (type_of y.content)) e in omega (arith, same)
greatest_content (n ∷ ns) (suc i) x low e = omega (arith, greatest_content ns i x (omega (arith, low)) e)

-- A part of a tuple is nested less deeply than the tuple.
pub part_depth : (s : Schema) (parts : Vec Schema Global) (i : ℕ) (x : Schema) → s ≡ schemas.Tuple parts → i < length parts.items
    → x ≡ get_or parts.items i x
    → depth (type_of x) < depth (type_of s)
part_depth s parts i x is low found = rw (is, type_of_tuple parts) (omega (arith, greatest_at parts.items i x low found))

-- A field is nested less deeply than its struct.
pub field_depth : (s : Schema) (fields : Vec (Named Schema) Global) (i : ℕ) (x : Named Schema) → s ≡ schemas.Struct fields → i < length fields.items
    → x ≡ get_or fields.items i x → depth (type_of x.content) < depth (type_of s)
field_depth s fields i x is low found = rw (is, type_of_struct fields) (omega (arith, greatest_content fields.items i x low found))

-- The content of a variant is nested less deeply than the enum.
pub variant_depth : (s : Schema) (variants : Vec (Named Schema) Global) (i : ℕ) (x : Named Schema) → s ≡ schemas.Enum variants
    → i < length variants.items
    → x ≡ get_or variants.items i x → depth (type_of x.content) < depth (type_of s)
variant_depth s variants i x is low found = rw (is, type_of_enum variants) (omega (arith, greatest_content variants.items i x low found))
