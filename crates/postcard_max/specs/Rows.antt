-- The greatest sizes of parts in a row, those of tuples and structs: the sum of the parts' sizes
-- (wire format 1.0, "tuple" and "struct").
use Rattle.std.specs.Prelude.{◌⊎◌}
use Rattle.std.proofs.Common.{ℕ, ◌+◌, ◌≤◌, Option, Some, None, refl, arith, length-append}
use Rattle.postcard_wire.specs.Tree.{Tree, Trees, Group, NoTrees, Then}
use Rattle.postcard_wire.specs.Spelling.{canonical, canonical_all}
use Rattle.postcard_wire.specs.Reading.{IsGroup, IsThen, IsEnd}
use Rattle.postcard_max.specs.Sizes.{sum_of}
use Rattle.postcard_max.specs.SizeLimit.{SizeLimit, exactly, then_limit}
use Rattle.postcard_max.specs.Limits.{AreBounded, IsReached, RowBounded, RowReached, IsLimit, IsRowLimit, tree_len, trees_len, limited_bounded, limited_reached}
use Rattle.postcard_max.specs.Willing.{never_any, then_never}
use Rattle.postcard_wire.specs.declared.error.Error.{Error}
use Rattle.postcard_shape.specs.Shape.{never}

-- The greatest size of the empty row is 0.
end_bounded : RowBounded (Some 0) IsEnd
end_bounded ts f = rw f (omega arith)

end_reached : RowReached (Some 0) IsEnd
end_reached = (NoTrees, refl, refl)

-- The limit of the empty row holds.
pub end_lawful : {V : Type 0} → IsRowLimit (exactly 0) IsEnd (λ (v : V). never)
end_lawful = record { bounded = end_bounded; is_reached = λ _. end_reached; never_refuses = λ _. never_any }

-- The greatest size of a part and those after it is the sum of both.
longest_then : (a b : ℕ) (F : Tree → Type 0) (G : Trees → Type 0) → ((t : Tree) → F t → tree_len t ≤ a) → ((ts : Trees) → G ts → trees_len ts ≤ b) → (ts : Trees) → IsThen F G ts → trees_len ts ≤ a + b
longest_then a b F G h k ts (s, ss, e, f, g) = rw e (omega (arith, h s f, k ss g, length-append (canonical s) (canonical_all ss)))

then_bounded : (a b : Option ℕ) (F : Tree → Type 0) (G : Trees → Type 0) → AreBounded a F → RowBounded b G → RowBounded (sum_of a b) (IsThen F G)
then_bounded None b F G h k = tt
then_bounded (Some a) None F G h k = tt
then_bounded (Some a) (Some b) F G h k = limited_bounded trees_len (a + b) (IsThen F G) (longest_then a b F G h k)

then_reached : (a b : Option ℕ) (F : Tree → Type 0) (G : Trees → Type 0) → IsReached a F → RowReached b G → RowReached (sum_of a b) (IsThen F G)
then_reached None b F G h k = tt
then_reached (Some a) None F G h k = tt
then_reached (Some a) (Some b) F G (s, f, d) (ss, g, e) =
    limited_reached trees_len (a + b) (IsThen F G) (Then s ss, (s, ss, refl, f, g), omega (arith, d, e, length-append (canonical s) (canonical_all ss)))

-- The limit of a part and the parts after it holds if those of both do.
pub then_lawful : {A B : Type 0} {l m : SizeLimit} {F : Tree → Type 0} {G : Trees → Type 0} {f : A → Error → Type 0} {g : B → Error → Type 0} → IsLimit l F f → IsRowLimit m G g → IsRowLimit (then_limit l m) (IsThen F G) (λ (v : A × B) e. f v.0 e ⊎ g v.1 e)
then_lawful {l = l} {m = m} {F = F} {G = G} h k = record {
  bounded = then_bounded l.greatest m.greatest F G h.bounded k.bounded;
  is_reached = λ r. then_reached l.greatest m.greatest F G (h.is_reached r.0) (k.is_reached r.1);
  never_refuses = λ w v. then_never (h.never_refuses w.0 v.0) (k.never_refuses w.1 v.1);
}

-- The greatest size of a tuple or a struct is that of its parts in a row.
group_bounded : (g : Option ℕ) (parts : Trees → Type 0) → RowBounded g parts → AreBounded g (IsGroup parts)
group_bounded None parts h = tt
group_bounded (Some m) parts h = λ t (ts, e, f). rw e (h ts f)

group_reached : (g : Option ℕ) (parts : Trees → Type 0) → RowReached g parts → IsReached g (IsGroup parts)
group_reached None parts h = tt
group_reached (Some m) parts (ts, f, e) = (Group ts, (ts, refl, f), e)

-- A tuple or a struct has the limit of its parts in a row.
pub group_lawful : {V : Type 0} {l : SizeLimit} {reads : Trees → Type 0} {refusal : V → Error → Type 0} → IsRowLimit l reads refusal → IsLimit l (IsGroup reads) refusal
group_lawful {l = l} {reads = reads} h = record {
  bounded = group_bounded l.greatest reads h.bounded;
  is_reached = λ r. group_reached l.greatest reads (h.is_reached r);
  never_refuses = h.never_refuses;
}
