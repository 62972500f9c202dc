-- The spellings of each kind of tree are prefix-free: two fronts of one list that spell such trees
-- are equal, and so are the trees.
use Rattle.std.proofs.Common.{◌≡◌, ℕ, inl, inr, Bool, true, false, List, [], ◌∷◌, ◌++◌, length, ℤ, pos, negsuc, refl, sym, ap, ap₂, ◌∙◌, subst, arith, append_assoc}
use Rattle.std.proofs.lemmas.List.{append_cancel_left}
use Rattle.std.proofs.lemmas.Str.{encode_same}
use Rattle.postcard_wire.specs.Number.{number, SpellsNum, zigzag}
use Rattle.postcard_wire.specs.Reading.{IsDelimited, AreDelimited, IsByte, IsBoolean, IsNum, IsInt, IsChar, IsText, IsOption, IsEnd, IsThen, IsGroup, Each, IsSeq, IsVariant, IsArray}
use Rattle.postcard_wire.specs.Spelling.{Spells, SpellsAll, bool_byte}
use Rattle.postcard_wire.specs.Tree.{Tree, Trees, Byte, Boolean, Num, Int, Char, Text, Present, Group, Seq, Variant, NoTrees, Then, count}
use Rattle.postcard_wire.proofs.Numbers.{one_front}

-- Two fronts of one list that spell numbers are equal, and so are the numbers.
pub num_front : (w n m : ℕ) (p q x y : List ℕ) → SpellsNum w n p → SpellsNum w m q → p ++ x ≡ q ++ y → (p ≡ q) × (n ≡ m)
num_front w n m p q x y s r e =
    let k = one_front p q x y s.digits r.digits e in
    (k, sym s.value ∙ (ap number k ∙ r.value))

-- Two fronts, each of two parts: if the first parts are equal, and the second parts are then equal
-- too, the fronts are equal. A and B are what else is learnt from the first and the second parts.
joined : {A B : Type 0} (p q a u b v x y : List ℕ) → p ≡ a ++ u → q ≡ b ++ v → p ++ x ≡ q ++ y
    → (a ++ (u ++ x) ≡ b ++ (v ++ y) → (a ≡ b) × A) → (A → u ++ x ≡ v ++ y → (u ≡ v) × B) → (p ≡ q) × A × B
joined {A} {B} p q a u b v x y e f g first second =
    let h : a ++ (u ++ x) ≡ b ++ (v ++ y) = sym (append_assoc a u x) ∙ (ap (λ (l : List ℕ). l ++ x) (sym e) ∙ (g ∙ (ap (λ (l : List ℕ). l ++ y) f ∙ append_assoc b v y))) in
    let m = first h in
    let k : u ++ x ≡ v ++ y = append_cancel_left a (u ++ x) (v ++ y) (h ∙ ap (λ (l : List ℕ). l ++ (v ++ y)) (sym m.0)) in
    let n = second m.1 k in
    (e ∙ (ap₂ (λ (i j : List ℕ). i ++ j) m.0 n.0 ∙ sym f), m.1, n.1)

-- Two fronts of one list begin with the same byte.
first_byte : (p q x y u v : List ℕ) (a b : ℕ) → p ≡ a ∷ u → q ≡ b ∷ v → p ++ x ≡ q ++ y → a ≡ b
first_byte p q x y u v a b e f g =
    let h : a ∷ (u ++ x) ≡ b ∷ (v ++ y) = ap (λ (l : List ℕ). l ++ x) (sym e) ∙ (g ∙ ap (λ (l : List ℕ). l ++ y) f) in
    (cc)

-- Two fronts of one byte each are equal.
one_byte : (p q x y : List ℕ) (a b : ℕ) → p ≡ a ∷ [] → q ≡ b ∷ [] → p ++ x ≡ q ++ y → (p ≡ q) × (a ≡ b)
one_byte p q x y a b e f g =
    let d = first_byte p q x y [] [] a b e f g in
    (e ∙ (ap (λ (n : ℕ). n ∷ []) d ∙ sym f), d)

-- Two fronts of the same length are equal.
pub same_front : (u v x y : List ℕ) → length u ≡ length v → u ++ x ≡ v ++ y → u ≡ v
same_front [] [] x y l e = refl
same_front [] (b ∷ v) x y l e = absurd (omega arith)
same_front (a ∷ u) [] x y l e = absurd (omega arith)
same_front (a ∷ u) (b ∷ v) x y l e =
    let h : a ≡ b = (cc) in
    let t : u ++ x ≡ v ++ y = (cc) in
    ap₂ (λ (n : ℕ) (k : List ℕ). n ∷ k) h (same_front u v x y (omega arith) t)

-- No two signed numbers have the same zigzag.
pub zig_same : (z u : ℤ) → zigzag z ≡ zigzag u → z ≡ u
zig_same (pos a) (pos b) e = let k : a ≡ b = omega arith in ap pos k
zig_same (pos a) (negsuc b) e = absurd (omega arith)
zig_same (negsuc a) (pos b) e = absurd (omega arith)
zig_same (negsuc a) (negsuc b) e = let k : a ≡ b = omega arith in ap negsuc k

-- No two booleans have the same byte.
bit_same : (x y : Bool) → bool_byte x ≡ bool_byte y → x ≡ y
bit_same true true e = refl
bit_same true false e = absurd (omega arith)
bit_same false true e = absurd (omega arith)
bit_same false false e = refl

-- Bytes are prefix-free.
pub byte_delimited : IsDelimited IsByte
byte_delimited t s p q x y r k sp sq g =
    let d = one_byte p q x y r.0 k.0 (rw r.1 at sp) (rw k.1 at sq) g in
    (d.0, r.1 ∙ (ap Byte d.1 ∙ sym k.1))

-- Truth values are prefix-free.
pub boolean_delimited : IsDelimited IsBoolean
boolean_delimited t s p q x y r k sp sq g =
    let d = one_byte p q x y (bool_byte r.0) (bool_byte k.0) (rw r.1 at sp) (rw k.1 at sq) g in
    (d.0, r.1 ∙ (ap Boolean (bit_same r.0 k.0 d.1) ∙ sym k.1))

-- Unsigned numbers of one width are prefix-free.
pub num_delimited : (w : ℕ) → IsDelimited (IsNum w)
num_delimited w t s p q x y r k sp sq g =
    let d = num_front w r.0 k.0 p q x y (rw r.1 at sp) (rw k.1 at sq) g in
    (d.0, r.1 ∙ (ap (λ (n : ℕ). Num w n) d.1 ∙ sym k.1))

-- Signed numbers of one width are prefix-free.
pub int_delimited : (w : ℕ) → IsDelimited (IsInt w)
int_delimited w t s p q x y r k sp sq g =
    let d = num_front w (zigzag r.0) (zigzag k.0) p q x y (rw r.1 at sp) (rw k.1 at sq) g in
    (d.0, r.1 ∙ (ap (λ (z : ℤ). Int w z) (zig_same r.0 k.0 d.1) ∙ sym k.1))

-- Two fronts that are a length and as many bytes are equal, and so are the bytes.
counted : (p q a b u v i j x y : List ℕ) → SpellsNum 64 (length u) a → SpellsNum 64 (length v) b → i ≡ u → j ≡ v → p ≡ a ++ i → q ≡ b ++ j → p ++ x ≡ q ++ y → (p ≡ q) × (u ≡ v)
counted p q a b u v i j x y m n k l e f g =
    let d = joined p q a u b v x y (e ∙ ap (λ (z : List ℕ). a ++ z) k) (f ∙ ap (λ (z : List ℕ). b ++ z) l) g
    (num_front 64 (length u) (length v) a b (u ++ x) (v ++ y) m n)
    (λ c h. let o = same_front u v x y c h in (o, o)) in
    (d.0, d.2)

-- Texts are prefix-free.
pub text_delimited : IsDelimited IsText
text_delimited t s p q x y r k sp sq g =
    let a : Spells (Text r.0) p = rw r.1 at sp in
    let b : Spells (Text k.0) q = rw k.1 at sq in
    let d = counted p q a.0 b.0 r.0 k.0 a.1 b.1 x y a.2 b.2 a.3 b.3 a.4 b.4 g in
    (d.0, r.1 ∙ (ap Text d.1 ∙ sym k.1))

-- Characters are prefix-free, since one text begins with one character.
pub char_delimited : IsDelimited IsChar
char_delimited t s p q x y r k sp sq g =
    let a : Spells (Char r.0) p = rw r.1 at sp in
    let b : Spells (Char k.0) q = rw k.1 at sq in
    let m = a.2 in
    let n = b.2 in
    let d = counted p q m.0 n.0 a.0 b.0 m.1 n.1 x y m.2 n.2 m.3 n.3 m.4 n.4 g in
    let c = encode_same r.0 k.0 a.1.first.0 b.1.first.0 (sym a.1.first.1 ∙ (d.1 ∙ b.1.first.1)) in
    (d.0, r.1 ∙ (ap Char c.0 ∙ sym k.1))

-- An option that holds a tree begins with the byte 1.
present_byte : (q a b : List ℕ) → a ≡ 1 ∷ [] → q ≡ a ++ b → q ≡ 1 ∷ b
present_byte q a b e f = f ∙ ap (λ (l : List ℕ). l ++ b) e

-- Options are prefix-free if what they hold is.
pub option_delimited : (reads : Tree → Type 0) → IsDelimited reads → IsDelimited (IsOption reads)
option_delimited reads law t s p q x y (inl r) (inl k) sp sq g =
    let a : p ≡ 0 ∷ [] = rw r at sp in
    let b : q ≡ 0 ∷ [] = rw k at sq in
    (a ∙ sym b, r ∙ sym k)
option_delimited reads law t s p q x y (inl r) (inr k) sp sq g =
    let b : Spells (Present k.0) q = rw k.1 at sq in
    absurd (omega (arith, first_byte p q x y [] b.1 0 1 (rw r at sp) (present_byte q b.0 b.1 b.2 b.4) g))
option_delimited reads law t s p q x y (inr r) (inl k) sp sq g =
    let a : Spells (Present r.0) p = rw r.1 at sp in
    absurd (omega (arith, first_byte p q x y a.1 [] 1 0 (present_byte p a.0 a.1 a.2 a.4) (rw k at sq) g))
option_delimited reads law t s p q x y (inr r) (inr k) sp sq g =
    let a : Spells (Present r.0) p = rw r.1 at sp in
    let b : Spells (Present k.0) q = rw k.1 at sq in
    let d = joined p q a.0 a.1 b.0 b.1 x y a.4 b.4 g (λ h. let e = a.2 ∙ sym b.2 in (e, e)) (λ e h. law r.0 k.0 a.1 b.1 x y r.2 k.2 a.3 b.3 h) in
    (d.0, r.1 ∙ (ap Present d.2 ∙ sym k.1))

-- The empty row is prefix-free.
pub end_delimited : AreDelimited IsEnd
end_delimited ts ss p q x y r k sp sq g =
    let a : p ≡ [] = rw r at sp in
    let b : q ≡ [] = rw k at sq in
    (a ∙ sym b, r ∙ sym k)

-- Two fronts that spell a part and those after it are equal, if the fronts of the part and of those
-- after it are.
then_front : (p q x y : List ℕ) (t s : Tree) (ts ss : Trees) → SpellsAll (Then t ts) p → SpellsAll (Then s ss) q → p ++ x ≡ q ++ y
    → ((a b v w : List ℕ) → Spells t a → Spells s b → a ++ v ≡ b ++ w → (a ≡ b) × (t ≡ s))
    → ((a b v w : List ℕ) → SpellsAll ts a → SpellsAll ss b → a ++ v ≡ b ++ w → (a ≡ b) × (ts ≡ ss))
    → (p ≡ q) × (Then t ts ≡ Then s ss)
then_front p q x y t s ts ss a b g one rest =
    let d = joined p q a.0 a.1 b.0 b.1 x y a.4 b.4 g (one a.0 b.0 (a.1 ++ x) (b.1 ++ y) a.2 b.2) (λ e h. rest a.1 b.1 x y a.3 b.3 h) in
    (d.0, ap₂ Then d.1 d.2)

-- A part followed by others is prefix-free if the part and the others are.
pub then_delimited : (first : Tree → Type 0) (rest : Trees → Type 0) → IsDelimited first → AreDelimited rest → AreDelimited (IsThen first rest)
then_delimited first rest one all ts ss p q x y r k sp sq g =
    let d = then_front p q x y r.0 k.0 r.1 k.1 (rw r.2 at sp) (rw k.2 at sq) g
    (λ a b v w m n. one r.0 k.0 a b v w r.3 k.3 m n) (λ a b v w m n. all r.1 k.1 a b v w r.4 k.4 m n) in
    (d.0, r.2 ∙ (d.1 ∙ sym k.2))

-- Groups are prefix-free if their parts are.
pub group_delimited : (parts : Trees → Type 0) → AreDelimited parts → IsDelimited (IsGroup parts)
group_delimited parts law t s p q x y r k sp sq g =
    let d = law r.0 k.0 p q x y r.2 k.2 (rw r.1 at sp) (rw k.1 at sq) g in
    (d.0, r.1 ∙ (ap Group d.1 ∙ sym k.1))

-- Rows of the same number of trees, each of a prefix-free set, are prefix-free.
each_front : (reads : Tree → Type 0) → IsDelimited reads → (ts ss : Trees) (p q x y : List ℕ) → count ts ≡ count ss → Each reads ts → Each reads ss → SpellsAll ts p → SpellsAll ss q → p ++ x ≡ q ++ y → (p ≡ q) × (ts ≡ ss)
each_front reads law NoTrees NoTrees p q x y c r k sp sq g = (sp ∙ sym sq, refl)
each_front reads law NoTrees (Then s ss) p q x y c r k sp sq g = absurd (omega arith)
each_front reads law (Then t ts) NoTrees p q x y c r k sp sq g = absurd (omega arith)
each_front reads law (Then t ts) (Then s ss) p q x y c r k sp sq g =
    let e : count ts ≡ count ss = omega arith in
    then_front p q x y t s ts ss sp sq g (λ a b v w m n. law t s a b v w r.0 k.0 m n)
    (λ a b v w m n. each_front reads law ts ss a b v w e r.1 k.1 m n)

-- Lists are prefix-free if their elements are.
pub seq_delimited : (reads : Tree → Type 0) → IsDelimited reads → IsDelimited (IsSeq reads)
seq_delimited reads law t s p q x y r k sp sq g =
    let a : Spells (Seq r.0) p = rw r.1 at sp in
    let b : Spells (Seq k.0) q = rw k.1 at sq in
    let d = joined p q a.0 a.1 b.0 b.1 x y a.4 b.4 g
    (num_front 64 (count r.0) (count k.0) a.0 b.0 (a.1 ++ x) (b.1 ++ y) a.2 b.2)
    (λ c h. each_front reads law r.0 k.0 a.1 b.1 x y c r.3 k.3 a.3 b.3 h) in
    (d.0, r.1 ∙ (ap Seq d.2 ∙ sym k.1))

-- Arrays are prefix-free if their elements are.
pub array_delimited : (n : ℕ) (reads : Tree → Type 0) → IsDelimited reads → IsDelimited (IsArray n reads)
array_delimited n reads law t s p q x y r k sp sq g =
    let d = each_front reads law r.0 k.0 p q x y (r.2 ∙ sym k.2) r.3 k.3 (rw r.1 at sp) (rw k.1 at sq) g in
    (d.0, r.1 ∙ (ap Group d.1 ∙ sym k.1))

-- Enums are prefix-free if the content at each index is.
pub variant_delimited : (content : ℕ → Tree → Type 0) → ((i : ℕ) → IsDelimited (content i)) → IsDelimited (IsVariant content)
variant_delimited content law t s p q x y r k sp sq g =
    let a : Spells (Variant r.0 r.1) p = rw r.2 at sp in
    let b : Spells (Variant k.0 k.1) q = rw k.2 at sq in
    let d = joined p q a.0 a.1 b.0 b.1 x y a.4 b.4 g
    (num_front 32 r.0 k.0 a.0 b.0 (a.1 ++ x) (b.1 ++ y) a.2 b.2)
    (λ c h. law r.0 r.1 k.1 a.1 b.1 x y r.4 (subst (λ (i : ℕ). content i k.1) (sym c) k.4) a.3 b.3 h) in
    (d.0, r.2 ∙ (ap₂ Variant d.1 d.2 ∙ sym k.2))

-- A subset of a prefix-free set is prefix-free.
pub fewer_delimited : (few all : Tree → Type 0) → ((t : Tree) → few t → all t) → IsDelimited all → IsDelimited few
fewer_delimited few all inside law t s p q x y r k sp sq g = law t s p q x y (inside t r) (inside s k) sp sq g

-- The empty set of trees is prefix-free.
pub none_delimited : IsDelimited (λ t. ⊥)
none_delimited t s p q x y r k sp sq g = absurd r
