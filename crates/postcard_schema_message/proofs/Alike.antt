-- Nodes that look alike have one view. So what was sent and what was read of it have the same nodes.
use Rattle.std.proofs.Common.{◌≡◌, ℕ, List, [], ◌∷◌, refl, sym, ap, ap₂, ◌∙◌, map}
use Rattle.std.specs.Prelude.{String, string_bytes}
use Rattle.std.specs.declared.alloc.Global.{Global}
use Rattle.postcard_shape.specs.Cases.{case_of, case_same}
use Rattle.postcard_shape.specs.Lists.{SameList}
use Rattle.postcard_shape.specs.declared.cases.Case.{Case}
use Rattle.postcard_shape.specs.declared.cases.Case.TheVariants.{This, Next}
use Rattle.postcard_shape.specs.declared.cases.NoCase.{NoCase}
use Rattle.postcard_schema_message.specs.declared.leaf.NodeLeaf.{NodeLeaf}
use Rattle.postcard_schema_message.specs.declared.node.Node.{Node}
use Rattle.postcard_schema_message.specs.declared.node.Node.TheVariants as nodes
use Rattle.postcard_schema_message.specs.Nodes.{NodeView, leaf_node, option_node, seq_node, map_node, array_node, tuple_node, struct_node, enum_node, node_view, node_views, texts}
use Rattle.postcard_schema_message.specs.Wire.{CountedRow, Names, NodeRow, row_of}

-- If elements that look alike have equal images, lists that look alike have equal images.
map_same : {V W : Type 0} (same : V → V → Type 0) (see : V → W) → ((v w : V) → same v w → see v ≡ see w)
    → (vs ws : List V) → SameList same vs ws → map see vs ≡ map see ws
map_same same see each [] [] h = refl
map_same same see each [] (w ∷ ws) h = absurd h
map_same same see each (v ∷ vs) [] h = absurd h
map_same {V} {W} same see each (v ∷ vs) (w ∷ ws) h =
    ap₂ (λ (x : W) (xs : List W). x ∷ xs) (each v w h.0) (map_same same see each vs ws h.1)

-- What is seen of variants that look alike is equal, if it is for each variant.
case_seen : {A R Z : Type 0} (same : A → A → Type 0) (other : R → R → Type 0) (see : A → Z) (after : R → Z)
    → ((a b : A) → same a b → see a ≡ see b) → ((v w : R) → other v w → after v ≡ after w)
    → (v w : Case A R) → case_same same other v w → case_of see after v ≡ case_of see after w
case_seen same other see after first rest (This a) (This b) h = first a b h
case_seen same other see after first rest (This a) (Next w) h = absurd h
case_seen same other see after first rest (Next v) (This b) h = absurd h
case_seen same other see after first rest (Next v) (Next w) h = rest v w h

abbrev SameLeaf : NodeLeaf → NodeLeaf → Type 0
SameLeaf a b = a.0 ≡ b.0

abbrev SameUnit : Unit {0} → Unit {0} → Type 0
SameUnit a b = Unit {0}

abbrev SameCount : ℕ → ℕ → Type 0
SameCount a b = a ≡ b

abbrev SameNames : Names → Names → Type 0
SameNames a b = SameList (λ (s t : String Global). string_bytes s ≡ string_bytes t) a.items b.items

abbrev SameNone : NoCase → NoCase → Type 0
SameNone a b = Unit {0}

names_same : (a b : Names) → SameNames a b → texts a.items ≡ texts b.items
names_same a b h = map_same (λ (s t : String Global). string_bytes s ≡ string_bytes t) string_bytes (λ s t e. e) a.items b.items h

never_view : NoCase → NodeView
never_view n = elim n [ ]

abbrev counted_view : CountedRow → NodeView
counted_view = case_of array_node (case_of tuple_node (case_of (λ (n : Names). struct_node (texts n.items)) (case_of (λ (n : Names). enum_node (texts n.items)) never_view)))

abbrev row_view : NodeRow → NodeView
row_view = case_of (λ (l : NodeLeaf). leaf_node l.0) (case_of (λ (u : Unit {0}). option_node) (case_of (λ (u : Unit {0}). seq_node) (case_of (λ (u : Unit {0}). map_node) counted_view)))

row_viewed : (n : Node) → row_view (row_of n) ≡ node_view n
row_viewed (nodes.Leaf leaf) = refl
row_viewed nodes.Option = refl
row_viewed nodes.Seq = refl
row_viewed nodes.Map = refl
row_viewed (nodes.Array count) = refl
row_viewed (nodes.Tuple count) = refl
row_viewed (nodes.Struct names) = refl
row_viewed (nodes.Enum names) = refl

abbrev SameCounted : CountedRow → CountedRow → Type 0
SameCounted = case_same SameCount (case_same SameCount (case_same SameNames (case_same SameNames SameNone)))

abbrev SameRow : NodeRow → NodeRow → Type 0
SameRow = case_same SameLeaf (case_same SameUnit (case_same SameUnit (case_same SameUnit SameCounted)))

counted_seen : (v w : CountedRow) → SameCounted v w → counted_view v ≡ counted_view w
counted_seen =
    case_seen SameCount _ array_node _ (λ a b e. ap array_node e)
    (case_seen SameCount _ tuple_node _ (λ a b e. ap tuple_node e)
    (case_seen SameNames _ (λ (n : Names). struct_node (texts n.items)) _ (λ a b h. ap struct_node (names_same a b h))
    (case_seen SameNames SameNone (λ (n : Names). enum_node (texts n.items)) never_view (λ a b h. ap enum_node (names_same a b h))
    (λ v w h. elim v [ ]))))

row_seen : (v w : NodeRow) → SameRow v w → row_view v ≡ row_view w
row_seen =
    case_seen SameLeaf _ (λ (l : NodeLeaf). leaf_node l.0) _ (λ a b e. ap leaf_node e)
    (case_seen SameUnit _ (λ (u : Unit {0}). option_node) _ (λ a b h. refl)
    (case_seen SameUnit _ (λ (u : Unit {0}). seq_node) _ (λ a b h. refl)
    (case_seen SameUnit SameCounted (λ (u : Unit {0}). map_node) counted_view (λ a b h. refl)
    counted_seen)))

node_same : (v w : Node) → SameRow (row_of v) (row_of w) → node_view v ≡ node_view w
node_same v w h = sym (row_viewed v) ∙ row_seen (row_of v) (row_of w) h ∙ row_viewed w

-- Lists of nodes that look alike, one by one, have the same views.
pub nodes_same : (vs ws : List Node) → SameList (λ v w. SameRow (row_of v) (row_of w)) vs ws → node_views vs ≡ node_views ws
nodes_same vs ws h = map_same (λ v w. SameRow (row_of v) (row_of w)) node_view node_same vs ws h
