-- The nodes of schemas in a row are those of no other row: the first node tells the parts of the first schema.
use Rattle.std.proofs.Common.{◌≡◌, List, [], ◌∷◌, ◌++◌, length, refl, sym, ap, ap₂, ◌∙◌, append_assoc, append-nil, arith}
use Rattle.postcard_schema.specs.Views.{View, Views, NamedViews, leaf_view, option_view, seq_view, map_view, array_view, tuple_view, struct_view, enum_view, no_views, then_view, no_names, then_name, named_of, views_of}
use Rattle.postcard_schema_message.specs.Nodes.{NodeView, leaf_node, option_node, seq_node, map_node, array_node, tuple_node, struct_node, enum_node, arity, held, held_preorder, listed, names, parts_preorder, preorder, preorder_all}
use Rattle.postcard_schema_message.specs.Making.{Each, make, paired}

-- The first node of a schema.
abbrev pub root_of : View → NodeView
root_of (leaf_view l) = leaf_node l
root_of (option_view v) = option_node
root_of (seq_view v) = seq_node
root_of (map_view k v) = map_node
root_of (array_view n v) = array_node n
root_of (tuple_view vs) = tuple_node (length (listed vs))
root_of (struct_view ns) = struct_node (names ns)
root_of (enum_view ns) = enum_node (names ns)

-- The parts of a schema.
abbrev pub parts_of : View → List View
parts_of (leaf_view l) = []
parts_of (option_view v) = v ∷ []
parts_of (seq_view v) = v ∷ []
parts_of (map_view k v) = k ∷ v ∷ []
parts_of (array_view n v) = v ∷ []
parts_of (tuple_view vs) = listed vs
parts_of (struct_view ns) = held ns
parts_of (enum_view ns) = held ns

-- ---- A schema is its first node and its parts

pub all_append : (xs ys : List View) → preorder_all (xs ++ ys) ≡ preorder_all xs ++ preorder_all ys
all_append [] ys = refl
all_append (x ∷ xs) ys = ap (λ ns. preorder x ++ ns) (all_append xs ys) ∙ sym (append_assoc (preorder x) (preorder_all xs) (preorder_all ys))

listed_preorder : (vs : Views) → parts_preorder vs ≡ preorder_all (listed vs)
listed_preorder no_views = refl
listed_preorder (then_view v vs) = ap (λ ns. preorder v ++ ns) (listed_preorder vs)

held_row : (ns : NamedViews) → held_preorder ns ≡ preorder_all (held ns)
held_row no_names = refl
held_row (then_name name v ns) = ap (λ xs. preorder v ++ xs) (held_row ns)

opened_one : (v : View) → preorder v ≡ root_of v ∷ preorder_all (parts_of v)
opened_one (leaf_view l) = refl
opened_one (option_view v) = ap (λ ns. option_node ∷ ns) (sym (append-nil (preorder v)))
opened_one (seq_view v) = ap (λ ns. seq_node ∷ ns) (sym (append-nil (preorder v)))
opened_one (map_view k v) = ap (λ ns. map_node ∷ (preorder k ++ ns)) (sym (append-nil (preorder v)))
opened_one (array_view n v) = ap (λ ns. array_node n ∷ ns) (sym (append-nil (preorder v)))
opened_one (tuple_view vs) = ap (λ ns. tuple_node (length (listed vs)) ∷ ns) (listed_preorder vs)
opened_one (struct_view ns) = ap (λ xs. struct_node (names ns) ∷ xs) (held_row ns)
opened_one (enum_view ns) = ap (λ xs. enum_node (names ns) ∷ xs) (held_row ns)

pub opened : (v : View) (vs : List View) → preorder_all (v ∷ vs) ≡ root_of v ∷ preorder_all (parts_of v ++ vs)
opened v vs = ap (λ ns. ns ++ preorder_all vs) (opened_one v) ∙ ap (λ ns. root_of v ∷ ns) (sym (all_append (parts_of v) vs))

held_length : (ns : NamedViews) → length (held ns) ≡ length (names ns)
held_length no_names = refl
held_length (then_name name v ns) = let more = held_length ns in omega (arith, more)

-- A view has as many parts as its root asks for.
pub parts_length : (v : View) → length (parts_of v) ≡ arity (root_of v)
parts_length (leaf_view l) = refl
parts_length (option_view v) = refl
parts_length (seq_view v) = refl
parts_length (map_view k v) = refl
parts_length (array_view n v) = refl
parts_length (tuple_view vs) = refl
parts_length (struct_view ns) = held_length ns
parts_length (enum_view ns) = held_length ns

-- The views of a tuple, listed and put in a row again.
views_again : (vs : Views) → views_of (listed vs) ≡ vs
views_again no_views = refl
views_again (then_view v vs) = ap (λ us. then_view v us) (views_again vs)

-- Names and contents, taken apart and put together again.
names_again : (ns : NamedViews) → named_of (paired (names ns) (held ns)) ≡ ns
names_again no_names = refl
names_again (then_name name v ns) = ap (λ ms. then_name name v ms) (names_again ns)

-- A view is made of its root and its parts.
made_again : (v : View) → make (root_of v) (parts_of v) ≡ v
made_again (leaf_view l) = refl
made_again (option_view v) = refl
made_again (seq_view v) = refl
made_again (map_view k v) = refl
made_again (array_view n v) = refl
made_again (tuple_view vs) = ap tuple_view (views_again vs)
made_again (struct_view ns) = ap struct_view (names_again ns)
made_again (enum_view ns) = ap enum_view (names_again ns)

-- ---- Rows with the same nodes

-- A row with nodes begins with a schema that has the first of them, and whose parts have the next ones.
pub first_root : (v : View) (vs : List View) (n : NodeView) (ns : List NodeView) → preorder_all (v ∷ vs) ≡ n ∷ ns → root_of v ≡ n
first_root v vs n ns e = let o : root_of v ∷ preorder_all (parts_of v ++ vs) ≡ n ∷ ns = sym (opened v vs) ∙ e in cc o

pub after_root : (v : View) (vs : List View) (n : NodeView) (ns : List NodeView) → preorder_all (v ∷ vs) ≡ n ∷ ns → preorder_all (parts_of v ++ vs) ≡ ns
after_root v vs n ns e = let o : root_of v ∷ preorder_all (parts_of v ++ vs) ≡ n ∷ ns = sym (opened v vs) ∙ e in cc o

-- A schema has at least one node.
some_nodes : (v : View) (vs : List View) → preorder_all (v ∷ vs) ≡ [] → ⊥
some_nodes v vs e = let o : root_of v ∷ preorder_all (parts_of v ++ vs) ≡ [] = sym (opened v vs) ∙ e in cc o

-- An empty list has no first node.
no_nodes : (n : NodeView) (ns : List NodeView) → [] ≡ n ∷ ns → ⊥
no_nodes n ns e = cc e

halves : (xs ys ps qs : List View) → length xs ≡ length ys → xs ++ ps ≡ ys ++ qs → (xs ≡ ys) × (ps ≡ qs)
halves [] [] ps qs long e = (refl, e)
halves [] (y ∷ ys) ps qs long e = absurd (omega (arith, long))
halves (x ∷ xs) [] ps qs long e = absurd (omega (arith, long))
halves (x ∷ xs) (y ∷ ys) ps qs long e =
    let first : x ≡ y = cc e in
    let after : xs ++ ps ≡ ys ++ qs = cc e in
    let k = halves xs ys ps qs (omega (arith, long)) after in
    (ap₂ (λ a b. a ∷ b) first k.0, k.1)

pub same_row : (ns : List NodeView) (ts us : List View) → preorder_all ts ≡ ns → preorder_all us ≡ ns → ts ≡ us
same_row [] [] [] p q = refl
same_row [] [] (u ∷ us) p q = absurd (some_nodes u us q)
same_row [] (t ∷ ts) us p q = absurd (some_nodes t ts p)
same_row (n ∷ ns) [] us p q = absurd (no_nodes n ns p)
same_row (n ∷ ns) (t ∷ ts) [] p q = absurd (no_nodes n ns q)
same_row (n ∷ ns) (t ∷ ts) (u ∷ us) p q =
    let root : root_of t ≡ root_of u = first_root t ts n ns p ∙ sym (first_root u us n ns q) in
    let long : length (parts_of t) ≡ length (parts_of u) = parts_length t ∙ ap arity root ∙ sym (parts_length u) in
    let k = halves (parts_of t) (parts_of u) ts us long (same_row ns (parts_of t ++ ts) (parts_of u ++ us) (after_root t ts n ns p) (after_root u us n ns q)) in
    let first : t ≡ u = sym (made_again t) ∙ ap₂ make root k.0 ∙ made_again u in
    ap₂ (λ a b. a ∷ b) first k.1

-- The nodes of a schema are those of the row of it alone.
pub alone : (v : View) → preorder_all (v ∷ []) ≡ preorder v
alone v = append-nil (preorder v)

-- Views with the same nodes are equal.
pub one_view : (v w : View) → preorder v ≡ preorder w → v ≡ w
one_view v w e = let same : v ∷ [] ≡ w ∷ [] = same_row (preorder w) (v ∷ []) (w ∷ []) (alone v ∙ e) (alone w) in cc same

-- ---- Every end of the nodes of a row is the nodes of a row

pub each_append : (P : View → Type 0) (xs ys : List View) → Each P xs → Each P ys → Each P (xs ++ ys)
each_append P [] ys p q = q
each_append P (x ∷ xs) ys p q = (p.0, each_append P xs ys p.1 q)

-- What holds of a schema and its parts holds of each schema of that row.
pub end_row : (P : View → Type 0) → ((v : View) → P v → Each P (parts_of v)) → (before after : List NodeView) (vs : List View) → Each P vs
    → preorder_all vs ≡ before ++ after → (us : List View) × Each P us × (preorder_all us ≡ after)
end_row P inside [] after vs all e = (vs, all, e)
end_row P inside (n ∷ before) after [] all e = absurd (no_nodes n (before ++ after) e)
end_row P inside (n ∷ before) after (v ∷ vs) all e =
    end_row P inside before after (parts_of v ++ vs) (each_append P (parts_of v) vs (inside v all.0) all.1) (after_root v vs n (before ++ after) e)
