-- A stack of built schemas, with one more at its end, and what a node builds of the last ones. 384 is the greatest depth.
use Rattle.std.proofs.Common.{◌≡◌, ℕ, ◌+◌, ◌<◌, ◌≤◌, ◌⊎◌, max, List, [], ◌∷◌, ◌++◌, length, map, Result, Ok, Err, refl, sym, ap, subst, ◌∙◌, append_assoc, arith, inl, inr}
use Rattle.std.specs.Prelude.{IsErrAnd}
use Rattle.std.proofs.lemmas.List.{length_push, map_push}
use Rattle.postcard_schema.specs.Views.{View, view}
use Rattle.postcard_schema.specs.declared.schema.Schema.{Schema}
use Rattle.postcard_schema_message.specs.declared.build.Built.{Built}
use Rattle.postcard_schema_message.specs.declared.build.Parts.{Parts}
use Rattle.postcard_schema_message.specs.declared.error.Problem.{Problem}
use Rattle.postcard_schema_message.specs.declared.error.Problem.TheVariants.{ElementWithoutBytes, Malformed, OutOfMemory}
use Rattle.postcard_schema_message.specs.Nodes.{NodeView, arity, levels, preorder_all}
use Rattle.postcard_schema_message.specs.Bounded.{HasEmptyElements, IsDeep, IsFull, view_depth}
use Rattle.postcard_schema_message.specs.Building.{AreBuilt, AreParts, BeginsWith, CannotBuild, IsBuilt, Roots, forest}
use Rattle.postcard_schema_message.specs.Making.{Each, IsMade, greatest, make}
use Rattle.postcard_schema_message.proofs.Made.{made_depth, made_preorder}
use Rattle.postcard_schema_message.proofs.Rows.{all_append}

-- ---- The end of a row

-- The schema that is pushed last comes first in the forest.
pub forest_push : (bs : List Built) (b : Built) → forest (bs ++ b ∷ []) ≡ view b.schema ∷ forest bs
forest_push [] b = refl
forest_push (a ∷ bs) b = ap (λ vs. vs ++ view a.schema ∷ []) (forest_push bs b)

-- A forest has as many views as schemas were built.
pub forest_length : (bs : List Built) → length (forest bs) ≡ length bs
forest_length [] = refl
forest_length (b ∷ bs) = let more = forest_length bs in omega (arith, more, length_push (forest bs) (view b.schema))

-- If the schemas of a list are built, and one more is, all of them with that one are.
pub built_push : (bs : List Built) (b : Built) → AreBuilt bs → IsBuilt b → AreBuilt (bs ++ b ∷ [])
built_push [] b all one = (one, tt)
built_push (a ∷ bs) b all one = (all.0, built_push bs b all.1 one)

-- The last of the built schemas is built.
pub built_last : (bs : List Built) (b : Built) → AreBuilt (bs ++ b ∷ []) → IsBuilt b
built_last [] b all = all.0
built_last (a ∷ bs) b all = built_last bs b all.1

-- The schemas before the last of the built ones are built.
pub built_before : (bs : List Built) (b : Built) → AreBuilt (bs ++ b ∷ []) → AreBuilt bs
built_before [] b all = tt
built_before (a ∷ bs) b all = (all.0, built_before bs b all.1)

greatest_push : (vs : List View) (v : View) → greatest (vs ++ v ∷ []) ≡ max (view_depth v) (greatest vs)
greatest_push [] v = refl
greatest_push (u ∷ vs) v = let more = greatest_push vs v in omega (arith, more)

each_push : (P : View → Type 0) (vs : List View) (v : View) → Each P vs → P v → Each P (vs ++ v ∷ [])
each_push P [] v all one = (one, tt)
each_push P (u ∷ vs) v all one = (all.0, each_push P vs v all.1 one)

-- ---- Parts, with one more

pub taken_more : (whole : List View) (old new : List Built) (b : Built) (ss : List Schema) → old ≡ new ++ b ∷ [] → whole ≡ map view ss ++ forest old
    → whole ≡ map view (ss ++ b.schema ∷ []) ++ forest new
taken_more whole old new b ss e h =
    h ∙ ap (λ bs. map view ss ++ forest bs) e ∙ ap (λ vs. map view ss ++ vs) (forest_push new b)
    ∙ sym (append_assoc (map view ss) (view b.schema ∷ []) (forest new)) ∙ ap (λ vs. vs ++ forest new) (sym (map_push view ss b.schema))

pub depth_more : (d : ℕ) (b : Built) (ss : List Schema) → IsBuilt b → d ≡ greatest (map view ss) → max b.depth d ≡ greatest (map view (ss ++ b.schema ∷ []))
depth_more d b ss one h =
    let more = greatest_push (map view ss) (view b.schema) in
    omega (arith, one.deep, h, more) ∙ ap greatest (sym (map_push view ss b.schema))

pub full_more : (P : View → Type 0) (s : Schema) (ss : List Schema) → Each P (map view ss) → P (view s) → Each P (map view (ss ++ s ∷ []))
full_more P s ss all one = subst (Each P) (sym (map_push view ss s)) (each_push P (map view ss) (view s) all one)

-- ---- What a node builds

pub built_row : (n : NodeView) (vs us ws : List View) → length vs ≡ arity n → ws ≡ vs ++ us → preorder_all (make n vs ∷ us) ≡ n ∷ preorder_all ws
built_row n vs us ws long e =
    ap (λ ns. ns ++ preorder_all us) (made_preorder n vs long) ∙ ap (λ ns. n ∷ ns) (sym (all_append vs us) ∙ ap preorder_all (sym e))

-- The error that a `?` passes on.
pub unbuilt : (n : NodeView) (old new : List Built) (r : Result Built Problem) (e : Problem) → IsErrAnd r (λ y. y ≡ e) → CannotBuild e n (forest old) → Roots n old r new
unbuilt n old new (Ok b) e h k = absurd h
unbuilt n old new (Err y) e h k = record { built = tt; same = tt; kept = tt; refused = subst (λ z. CannotBuild z n (forest old)) (sym h) k }

-- If taking the parts of a node fails, for want of memory or of parts, the node can't be built for that reason.
pub cannot_take : (problem : Problem) (n : NodeView) (vs : List View) (count : ℕ) → count ≡ arity n
    → (problem ≡ OutOfMemory) ⊎ ((problem ≡ Malformed) × (length vs < count)) → CannotBuild problem n vs
cannot_take problem n vs count is (inl memory) = subst (λ p. CannotBuild p n vs) (sym memory) tt
cannot_take problem n vs count is (inr (malformed, few)) = subst (λ p. CannotBuild p n vs) (sym malformed) (subst (λ m. length vs < m) is few)

-- If the greatest depth of the parts and the node's own levels are more than 384, the nodes begin with a type that is too deep.
pub too_deep : (n : NodeView) (vs us ws : List View) (d : ℕ) → length vs ≡ arity n → ws ≡ vs ++ us → d ≡ greatest vs → 384 < d + levels n → BeginsWith IsDeep n ws
too_deep n vs us ws d long e deep high =
    let depth = made_depth n vs long in
    (make n vs, us, sym (built_row n vs us ws long e), omega (arith, depth, deep, high))

-- If making a node's schema of its parts fails, the node can't be built for that reason.
pub cannot_make : (problem : Problem) (n : NodeView) (vs us ws : List View) → length vs ≡ arity n → ws ≡ vs ++ us
    → (problem ≡ OutOfMemory) ⊎ ((problem ≡ ElementWithoutBytes) × HasEmptyElements (make n vs)) → CannotBuild problem n ws
cannot_make problem n vs us ws long e (inl memory) = subst (λ p. CannotBuild p n ws) (sym memory) tt
cannot_make problem n vs us ws long e (inr (is, empty)) = subst (λ p. CannotBuild p n ws) (sym is) (make n vs, us, sym (built_row n vs us ws long e), empty)

pub roots : (n : NodeView) (old new : List Built) (p : Parts) (s : Schema) (d : ℕ) → length (map view p.schemas.items) ≡ arity n
    → forest old ≡ map view p.schemas.items ++ forest new → AreParts p → AreBuilt new → d ≡ p.depth + levels n → d ≤ 384
    → IsMade n (map view p.schemas.items) (Ok s) → Roots n old (Ok (record { schema = s; depth = d })) new
roots n old new p s d long e parts kept deep low h =
    let vs = map view p.schemas.items in
    let depth = made_depth n vs long in
    let greatest_is = parts.deep in
    let whole : d ≡ view_depth (make n vs) = omega (arith, deep, depth, greatest_is) in
    record {
      built = record { deep = whole ∙ ap view_depth (sym h.made); low = low; full = subst IsFull (sym h.made) (h.full parts.full) };
      same = ap (λ v. preorder_all (v ∷ forest new)) h.made ∙ built_row n vs (forest new) (forest old) long e;
      kept = kept;
      refused = tt;
    }
