-- Rows of parts, one after the other, and groups as their parts.
use Rattle.std.proofs.Common.{◌≡◌, ℕ, zero, suc, List, [], ◌∷◌, ◌++◌, refl, sym, ap, ap₂, subst, ◌∙◌, arith, append_assoc, append-nil}
use Rattle.std.proofs.Math.ListN.{replicate}
use Rattle.postcard_wire.specs.Tree.{Tree, Trees, Group, NoTrees, Then, count}
use Rattle.postcard_wire.specs.Reading.{Each}
use Rattle.postcard_wire.specs.Spelling.{Spells, SpellsAll}
use Rattle.postcard_schema.specs.Meaning.{MessageType, array, group, row_of, reads, reads_all}
use Rattle.postcard_compat.specs.Said.{Word, elements_said, said, said_all}
use Rattle.postcard_compat.specs.Serving.{AllServe, SameMessages, SameRows}
use Rattle.postcard_compat.proofs.Served.{end_serves, then_serves}
use Rattle.postcard_compat.proofs.Alike.{no_rows_same, rows_after, same_after, same_back, group_same}

-- ---- Rows of trees

-- The trees of a row, and then those of another.
abbrev join : Trees → Trees → Trees
join NoTrees us = us
join (Then t ts) us = Then t (join ts us)

-- The encodings of two rows of trees, joined, encode the joined row.
spelled_joined : (ts us : Trees) (p q : List ℕ) → SpellsAll ts p → SpellsAll us q → SpellsAll (join ts us) (p ++ q)
spelled_joined NoTrees us p q a b = rw a b
spelled_joined (Then t ts) us p q (x, y, s, k, e) b = (x, y ++ q, s, spelled_joined ts us y q k b, ap (λ r. r ++ q) e ∙ append_assoc x y q)

-- An encoding of a joined row is one of the first row, and then one of the second.
spelled_apart : (ts us : Trees) (p : List ℕ) → SpellsAll (join ts us) p → (x y : List ℕ) × SpellsAll ts x × SpellsAll us y × (p ≡ x ++ y)
spelled_apart NoTrees us p s = ([], p, refl, s, refl)
spelled_apart (Then t ts) us p (v, w, c, s, f) =
    let (x, y, a, b, e) = spelled_apart ts us w s in
    (v ++ x, y, (v, x, c, a, refl), b, f ∙ (ap (λ z. v ++ z) e ∙ sym (append_assoc v x y)))

-- ---- Rows of types

-- Trees of two rows of types, joined, are trees of the joined row.
read_joined : (xs ys : List MessageType) (us vs : Trees) → reads_all (row_of xs) us → reads_all (row_of ys) vs → reads_all (row_of (xs ++ ys)) (join us vs)
read_joined [] ys us vs e r = rw e r
read_joined (x ∷ xs) ys us vs (u, ws, e, q, a) r = rw e (u, join ws vs, refl, q, read_joined xs ys ws vs a r)

-- Trees of a joined row of types are trees of the first row, and then trees of the second.
read_apart : (xs ys : List MessageType) (ts : Trees) → reads_all (row_of (xs ++ ys)) ts
    → (us vs : Trees) × (ts ≡ join us vs) × reads_all (row_of xs) us × reads_all (row_of ys) vs
read_apart [] ys ts r = (NoTrees, ts, refl, refl, r)
read_apart (x ∷ xs) ys ts (u, ws, e, q, r) =
    let (us, vs, f, a, b) = read_apart xs ys ws r in
    (Then u us, vs, e ∙ ap (λ z. Then u z) f, (u, us, refl, q, a), b)

-- A joined row says what its first part says, and then what the second says.
said_joined : (xs ys : List MessageType) (us vs : Trees) → reads_all (row_of xs) us
    → said_all (row_of (xs ++ ys)) (join us vs) ≡ said_all (row_of xs) us ++ said_all (row_of ys) vs
said_joined [] ys us vs e = rw e refl
said_joined (x ∷ xs) ys us vs (u, ws, e, q, a) =
    rw e (ap (λ z. said x u ++ z) (said_joined xs ys ws vs a) ∙ sym (append_assoc (said x u) (said_all (row_of xs) ws) (said_all (row_of ys) vs)))

-- Joined rows serve joined rows if their parts do.
join_serves : (ns ms os ps : List MessageType) → AllServe (row_of ns) (row_of os) → AllServe (row_of ms) (row_of ps)
    → AllServe (row_of (ns ++ ms)) (row_of (os ++ ps))
join_serves ns ms os ps h k ts r =
    let (us, vs, e, a, b) = read_apart os ps ts r in
    let (xs, ra, same, spelled) = h us a in
    let (ys, rb, also, respelled) = k vs b in
    let old : said_all (row_of os) us ++ said_all (row_of ps) vs ≡ said_all (row_of (os ++ ps)) ts =
    sym (said_joined os ps us vs a) ∙ ap (said_all (row_of (os ++ ps))) (sym e) in (
      join xs ys,
      read_joined ns ms xs ys ra rb,
      said_joined ns ms xs ys ra ∙ (ap₂ (λ (p q : List Word). p ++ q) same also ∙ old),
      λ p s. let l : SpellsAll (join us vs) p = rw e at s in
          let (x, y, c, d, f) = spelled_apart us vs p l in
          subst (SpellsAll (join xs ys)) (sym f) (spelled_joined xs ys x y (spelled x c) (respelled y d)),
    )

-- Joined rows have the same messages if their parts do.
pub rows_join : (xs ys zs ws : List MessageType) → SameRows xs ys → SameRows zs ws → SameRows (xs ++ zs) (ys ++ ws)
rows_join xs ys zs ws h k = record {
  serve = join_serves xs zs ys ws h.serve k.serve;
  are_served = join_serves ys ws xs zs h.are_served k.are_served;
}

-- Rows of one part each have the same messages if the parts do.
pub rows_one : (x y : MessageType) → SameMessages x y → SameRows (x ∷ []) (y ∷ [])
rows_one x y h = record {
  serve = then_serves x y (row_of []) (row_of []) h.serves end_serves;
  are_served = then_serves y x (row_of []) (row_of []) h.is_served end_serves;
}

-- ---- Groups

-- The encodings of one tree in a row, and what the tree says.
alone : (t : Tree) (p : List ℕ) → Spells t p → SpellsAll (Then t NoTrees) p
alone t p s = (p, [], s, refl, sym (append-nil p))

-- A row of one tree has the encodings of the tree.
not_alone : (t : Tree) (p : List ℕ) → SpellsAll (Then t NoTrees) p → Spells t p
not_alone t p (x, y, s, none, e) = subst (Spells t) (sym (e ∙ (ap (λ z. x ++ z) none ∙ append-nil x))) s

-- The parts of a group are the row in which it stands alone.
pub parts_same : (xs : List MessageType) → SameRows xs (group (row_of xs) ∷ [])
parts_same xs = record {
  serve = λ ts (t, us, e, (vs, f, r), none).
      let is : ts ≡ Then (Group vs) NoTrees = e ∙ ap₂ (λ (a : Tree) (b : Trees). Then a b) f none in (
        vs,
        r,
        sym (append-nil (said_all (row_of xs) vs)) ∙ ap (said_all (row_of (group (row_of xs) ∷ []))) (sym is),
        λ p s. let l : SpellsAll (Then (Group vs) NoTrees) p = rw is at s in not_alone (Group vs) p l,
      );
  are_served = λ ts r. (
    Then (Group ts) NoTrees,
    (Group ts, NoTrees, refl, (ts, refl, r), refl),
    append-nil (said_all (row_of xs) ts),
    λ p s. alone (Group ts) p s,
  );
}

-- A group of one part is that part.
pub part_same : (x : MessageType) → SameMessages x (group (row_of (x ∷ [])))
part_same x = record {
  serves = λ t (ts, e, (u, us, f, r, none)).
      let is : t ≡ Group (Then u NoTrees) = e ∙ ap Group (f ∙ ap (λ z. Then u z) none) in (
        u,
        r,
        sym (append-nil (said x u)) ∙ ap (said (group (row_of (x ∷ [])))) (sym is),
        λ p s. let l : SpellsAll (Then u NoTrees) p = rw is at s in not_alone u p l,
      );
  is_served = λ t r. (
    Group (Then t NoTrees),
    (Then t NoTrees, refl, (t, NoTrees, refl, r, refl)),
    append-nil (said x t),
    λ p s. alone t p s,
  );
}

-- A row that is as good as one part is that part as a group.
pub whole_same : (xs : List MessageType) (x : MessageType) → SameRows xs (x ∷ []) → SameMessages (group (row_of xs)) x
whole_same xs x h =
    let one = group (row_of (x ∷ [])) in
    same_after (group (row_of xs)) one x (group_same xs (x ∷ []) h) (same_back x one (part_same x))

-- ---- Arrays

each_read : (x : MessageType) (n : ℕ) (ts : Trees) → count ts ≡ n → Each (reads x) ts → reads_all (row_of (replicate n x)) ts
each_read x zero NoTrees e r = refl
each_read x zero (Then t ts) e r = absurd (omega (arith, e))
each_read x (suc n) NoTrees e r = absurd (omega (arith, e))
each_read x (suc n) (Then t ts) e r = (t, ts, refl, r.0, each_read x n ts (omega (arith, e)) r.1)

all_read : (x : MessageType) (n : ℕ) (ts : Trees) → reads_all (row_of (replicate n x)) ts → (count ts ≡ n) × Each (reads x) ts
all_read x zero ts e = rw e (refl, tt)
all_read x (suc n) ts (u, us, e, r, rs) = let (many, each) = all_read x n us rs in rw e (ap (λ k. suc k) many, (r, each))

all_said : (x : MessageType) (n : ℕ) (ts : Trees) → count ts ≡ n → said_all (row_of (replicate n x)) ts ≡ elements_said (said x) ts
all_said x zero NoTrees e = refl
all_said x zero (Then t ts) e = absurd (omega (arith, e))
all_said x (suc n) NoTrees e = absurd (omega (arith, e))
all_said x (suc n) (Then t ts) e = ap (λ z. said x t ++ z) (all_said x n ts (omega (arith, e)))

-- An array is the group of its elements.
array_written_out : (x : MessageType) (n : ℕ) → SameMessages (group (row_of (replicate n x))) (array n x)
array_written_out x n =
    let out = group (row_of (replicate n x)) in
    record {
      serves = λ t (ts, e, many, each). (
        Group ts,
        (ts, refl, each_read x n ts many each),
        all_said x n ts many ∙ ap (said (array n x)) (sym e),
        λ p s. let l : Spells (Group ts) p = rw e at s in l,
      );
      is_served = λ t (ts, e, r).
          let (many, each) = all_read x n ts r in (
            Group ts,
            (ts, refl, many, each),
            sym (all_said x n ts many) ∙ ap (said out) (sym e),
            λ p s. let l : Spells (Group ts) p = rw e at s in l,
          );
    }

-- An array has the messages of its elements in a row.
pub written_out_same : (x : MessageType) (n : ℕ) → SameRows (replicate n x) (array n x ∷ [])
written_out_same x n =
    let xs = replicate n x in
    let out = group (row_of xs) in
    rows_after xs (out ∷ []) (array n x ∷ []) (parts_same xs) (rows_one out (array n x) (array_written_out x n))

-- An array whose elements have no parts has none.
none_repeated : (n : ℕ) → SameRows [] (replicate n (group (row_of [])))
none_repeated zero = no_rows_same
none_repeated (suc n) = rows_join [] (group (row_of []) ∷ []) [] (replicate n (group (row_of []))) (parts_same []) (none_repeated n)

pub no_parts_same : (n : ℕ) → SameRows [] (array n (group (row_of [])) ∷ [])
no_parts_same n =
    let x = group (row_of []) in
    rows_after [] (replicate n x) (array n x ∷ []) (none_repeated n) (written_out_same x n)
