-- What refuses a list of nodes: too few parts, too many schemas, or a part that breaks a bound.
use Rattle.std.proofs.Common.{◌≡◌, ◌+◌, ◌<◌, ◌≤◌, List, [], ◌∷◌, ◌++◌, length, refl, sym, ap, subst, ◌∙◌, true≢false, arith}
use Rattle.std.proofs.lemmas.List.{length-append}
use Rattle.postcard_schema.specs.Bounds.{AllElementsHaveBytes, greatest_depth}
use Rattle.postcard_schema.specs.Views.{View, Views, NamedViews, leaf_view, option_view, seq_view, map_view, array_view, tuple_view, struct_view, enum_view, no_views, then_view, no_names, then_name}
use Rattle.postcard_schema_message.specs.declared.error.Problem.{Problem}
use Rattle.postcard_schema_message.specs.declared.error.Problem.TheVariants.{Malformed, TooDeep, ElementWithoutBytes, OutOfMemory}
use Rattle.postcard_schema_message.specs.Nodes.{NodeView, arity, held, listed, preorder, preorder_all}
use Rattle.postcard_schema_message.specs.Bounded.{HasEmptyElements, HasPart, IsBounded, IsDeep, Refuses}
use Rattle.postcard_schema.specs.Views.{held_types, message_types}
use Rattle.postcard_schema_message.specs.Making.{Each}
use Rattle.postcard_schema_message.specs.Building.{CannotBuild}
use Rattle.postcard_schema_message.proofs.Rows.{after_root, alone, end_row, first_root, parts_length, parts_of, same_row}

-- ---- Parts of a schema within the bounds are within them

listed_bounded : (vs : Views) → AllElementsHaveBytes (message_types vs) → greatest_depth (message_types vs) ≤ 384 → Each IsBounded (listed vs)
listed_bounded no_views full low = tt
listed_bounded (then_view v vs) full low = (record { full = full.0; low = omega (arith, low) }, listed_bounded vs full.1 (omega (arith, low)))

held_bounded : (ns : NamedViews) → AllElementsHaveBytes (held_types ns) → greatest_depth (held_types ns) ≤ 384 → Each IsBounded (held ns)
held_bounded no_names full low = tt
held_bounded (then_name name v ns) full low = (record { full = full.0; low = omega (arith, low) }, held_bounded ns full.1 (omega (arith, low)))

-- The parts of a bounded view are bounded.
parts_bounded : (v : View) → IsBounded v → Each IsBounded (parts_of v)
parts_bounded (leaf_view l) b = tt
parts_bounded (option_view v) b = (record { full = b.full; low = omega (arith, b.low) }, tt)
parts_bounded (seq_view v) b = (record { full = b.full.1; low = omega (arith, b.low) }, tt)
parts_bounded (map_view k v) b = (record { full = b.full.1.0; low = omega (arith, b.low) }, (record { full = b.full.1.1.0; low = omega (arith, b.low) }, tt))
parts_bounded (array_view n v) b = (record { full = b.full.1; low = omega (arith, b.low) }, tt)
parts_bounded (tuple_view vs) b = listed_bounded vs b.full (omega (arith, b.low))
parts_bounded (struct_view ns) b = held_bounded ns b.full (omega (arith, b.low))
parts_bounded (enum_view ns) b = held_bounded ns b.full (omega (arith, b.low))

-- ---- Refusals

-- A node before a row with too few schemas begins no row.
too_few : (n : NodeView) (ts us : List View) → length ts < arity n → preorder_all us ≡ n ∷ preorder_all ts → ⊥
too_few n ts [] few e = absurd (cc e)
too_few n ts (u ∷ us) few e =
    let same : parts_of u ++ us ≡ ts = same_row (preorder_all ts) (parts_of u ++ us) ts (after_root u us n (preorder_all ts) e) refl in
    let long : length (parts_of u) ≡ arity n = parts_length u ∙ ap arity (first_root u us n (preorder_all ts) e) in
    let whole : length (parts_of u) + length us ≡ length ts = sym (length-append (parts_of u) us) ∙ ap length same in
    omega (arith, few, long, whole)

all_hold : (vs : List View) → Each (λ v. Unit {0}) vs
all_hold [] = tt
all_hold (v ∷ vs) = (tt, all_hold vs)

-- No schema has nodes that end so.
none_has : (nodes before : List NodeView) (n : NodeView) (ts : List View) → nodes ≡ before ++ n ∷ preorder_all ts → length ts < arity n
    → (v : View) → preorder v ≡ nodes → ⊥
none_has nodes before n ts whole few v e =
    let row = end_row (λ w. Unit {0}) (λ w h. all_hold (parts_of w)) before (n ∷ preorder_all ts) (v ∷ []) (tt, tt) (alone v ∙ e ∙ whole) in
    too_few n ts row.0 few row.2

-- No schema has the nodes of no schema, or of several.
pub not_one : (nodes : List NodeView) (ts : List View) → preorder_all ts ≡ nodes → (length ts ≡ 1 → ⊥) → (v : View) → preorder v ≡ nodes → ⊥
not_one nodes ts whole many v e = many (sym (ap length (same_row nodes (v ∷ []) ts (alone v ∙ e) whole)))

-- What cannot be built before the nodes that were read refuses all nodes.
pub refused_at : (problem : Problem) (nodes before : List NodeView) (n : NodeView) (ts : List View) → before ++ n ∷ preorder_all ts ≡ nodes
    → CannotBuild problem n ts → Refuses problem nodes
refused_at Malformed nodes before n ts whole few = none_has nodes before n ts (sym whole) few
refused_at TooDeep nodes before n ts whole (v, after, e, deep) = (before, v, after, sym whole ∙ ap (λ ns. before ++ ns) e, deep)
refused_at ElementWithoutBytes nodes before n ts whole (v, after, e, empty) = (before, v, after, sym whole ∙ ap (λ ns. before ++ ns) e, empty)
refused_at OutOfMemory nodes before n ts whole tt = tt

-- No schema within the bounds has a part that breaks one.
no_part : (P : View → Type 0) → ((w : View) → P w → IsBounded w → ⊥) → (nodes : List NodeView) → HasPart P nodes → (v : View) → preorder v ≡ nodes → IsBounded v → ⊥
no_part P breaks nodes (before, w, after, whole, is) v e bounded =
    let row = end_row IsBounded parts_bounded before (preorder_all (w ∷ after)) (v ∷ []) (bounded, tt) (alone v ∙ e ∙ whole) in
    let same : row.0 ≡ w ∷ after = same_row (preorder_all (w ∷ after)) row.0 (w ∷ after) row.2 refl in
    breaks w is (subst (Each IsBounded) same row.1).0

-- A view that is too deep is not bounded.
deep_breaks : (w : View) → IsDeep w → IsBounded w → ⊥
deep_breaks w deep b = omega (arith, deep, b.low)

-- A view with a list of elements without bytes is not bounded.
empty_breaks : (w : View) → HasEmptyElements w → IsBounded w → ⊥
empty_breaks (seq_view v) empty b = true≢false (sym b.full.0 ∙ empty)
empty_breaks (map_view k v) empty b = true≢false (sym b.full.0 ∙ empty)
empty_breaks (array_view n v) empty b = true≢false (sym b.full.0 ∙ empty)
empty_breaks (leaf_view l) empty b = empty
empty_breaks (option_view v) empty b = empty
empty_breaks (tuple_view vs) empty b = empty
empty_breaks (struct_view ns) empty b = empty
empty_breaks (enum_view ns) empty b = empty

-- Reading the nodes of a schema within the bounds fails only if an allocation does.
pub only_memory : (problem : Problem) (nodes : List NodeView) → Refuses problem nodes → (v : View) → preorder v ≡ nodes → IsBounded v → problem ≡ OutOfMemory
only_memory Malformed nodes none v e bounded = absurd (none v e)
only_memory TooDeep nodes part v e bounded = absurd (no_part IsDeep deep_breaks nodes part v e bounded)
only_memory ElementWithoutBytes nodes part v e bounded = absurd (no_part HasEmptyElements empty_breaks nodes part v e bounded)
only_memory OutOfMemory nodes tt v e bounded = refl
