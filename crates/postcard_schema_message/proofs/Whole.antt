-- The nodes that are left and those of the row, through a step of the loop and at its end.
use Rattle.std.proofs.Common.{◌≡◌, ℕ, ◌<◌, ◌≤◌, List, [], ◌∷◌, ◌++◌, ◌==◌, false, zero, suc, length, Result, Ok, Err, IfErr, sym, ap, subst, ◌∙◌, append_assoc, arith}
use Rattle.std.specs.Prelude.{IsErrAnd}
use Rattle.std.proofs.lemmas.List.{length_push, map_push}
use Rattle.postcard_schema.specs.Bounds.{ElementsHaveBytes, depth}
use Rattle.postcard_schema.specs.Meaning.{type_of}
use Rattle.postcard_schema.specs.Views.{View, view}
use Rattle.postcard_schema.specs.declared.schema.Schema.{Schema}
use Rattle.postcard_schema_message.specs.declared.build.Built.{Built}
use Rattle.postcard_schema_message.specs.declared.error.Problem.{Problem}
use Rattle.postcard_schema_message.specs.declared.node.Node.{Node}
use Rattle.postcard_schema_message.specs.Nodes.{NodeView, node_view, node_views, preorder, preorder_all}
use Rattle.postcard_schema_message.specs.Building.{AreBuilt, forest}
use Rattle.postcard_schema_message.proofs.Built.{built_last, forest_length, forest_push}
use Rattle.postcard_schema_message.proofs.Refused.{not_one}
use Rattle.postcard_schema_message.proofs.Rows.{alone}
use Rattle.postcard_schema.proofs.Typed.{typed}

-- The last node that is left, before the nodes xs.
pub whole_at : (ns ms : List Node) (n : Node) (xs whole : List NodeView) → ns ≡ ms ++ n ∷ [] → node_views ns ++ xs ≡ whole → node_views ms ++ node_view n ∷ xs ≡ whole
whole_at ns ms n xs whole e h =
    sym (append_assoc (node_views ms) (node_view n ∷ []) xs) ∙ ap (λ m. m ++ xs) (sym (map_push node_view ms n) ∙ ap node_views (sym e)) ∙ h

-- That node is taken into the row.
pub whole_more : (ns ms : List Node) (n : Node) (row rest more : List Built) (b : Built) (whole : List NodeView) → ns ≡ ms ++ n ∷ []
    → preorder_all (view b.schema ∷ forest rest) ≡ node_view n ∷ preorder_all (forest row) → more ≡ rest ++ b ∷ []
    → node_views ns ++ preorder_all (forest row) ≡ whole → node_views ms ++ preorder_all (forest more) ≡ whole
whole_more ns ms n row rest more b whole e same added h =
    ap (λ bs. node_views ms ++ preorder_all (forest bs)) added ∙ ap (λ vs. node_views ms ++ preorder_all vs) (forest_push rest b)
    ∙ ap (λ xs. node_views ms ++ xs) same ∙ whole_at ns ms n (preorder_all (forest row)) whole e h

-- No node is left.
pub whole_end : (ns : List Node) (xs whole : List NodeView) → ns ≡ [] → node_views ns ++ xs ≡ whole → xs ≡ whole
whole_end ns xs whole none h = ap (λ ms. node_views ms ++ xs) (sym none) ∙ h

pub of_none : (whole : List NodeView) (row : List Built) → row ≡ [] → preorder_all (forest row) ≡ whole → (v : View) → preorder v ≡ whole → ⊥
of_none whole row none h = not_one whole (forest row) h (λ one. let long = forest_length row in let zero = ap length none in omega (arith, one, long, zero))

pub of_several : (whole : List NodeView) (row rest : List Built) (b : Built) → row ≡ rest ++ b ∷ [] → 0 < length rest → preorder_all (forest row) ≡ whole
    → (v : View) → preorder v ≡ whole → ⊥
of_several whole row rest b e some h = not_one whole (forest row) h (λ one.
    let long = forest_length row in let many = ap length e ∙ length_push rest b in omega (arith, one, long, many, some))

pub of_one : (whole : List NodeView) (row rest : List Built) (b : Built) → row ≡ rest ++ b ∷ [] → rest ≡ [] → preorder_all (forest row) ≡ whole
    → preorder (view b.schema) ≡ whole
of_one whole row rest b e none h =
    sym (alone (view b.schema)) ∙ ap (λ bs. preorder_all (view b.schema ∷ forest bs)) (sym none) ∙ ap preorder_all (sym (forest_push rest b))
    ∙ ap (λ bs. preorder_all (forest bs)) (sym e) ∙ h

-- The last schema of a row is within both bounds.
pub last_full : (row rest : List Built) (b : Built) → row ≡ rest ++ b ∷ [] → AreBuilt row → ElementsHaveBytes (type_of b.schema)
last_full row rest b e all = subst ElementsHaveBytes (typed b.schema) (built_last rest b (subst AreBuilt e all)).full

pub last_low : (row rest : List Built) (b : Built) → row ≡ rest ++ b ∷ [] → AreBuilt row → depth (type_of b.schema) ≤ 384
last_low row rest b e all =
    let one = built_last rest b (subst AreBuilt e all) in
    subst (λ t. depth t ≤ 384) (typed b.schema) (omega (arith, one.deep, one.low))

pub some_items : (n : ℕ) → false ≡ (n == 0) → 0 < n
some_items zero e = absurd (grind (arith, e))
some_items (suc n) e = omega arith

-- The error that a `?` passes on.
pub at_err : (P : Problem → Type 0) (r : Result Schema Problem) (e : Problem) → IsErrAnd r (λ y. y ≡ e) → P e → IfErr r P
at_err P (Ok x) e h k = absurd h
at_err P (Err y) e h k = subst P (sym h) k
