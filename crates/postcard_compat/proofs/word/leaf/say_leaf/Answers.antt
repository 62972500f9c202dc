-- A byte string says what a list of bytes says. Any other value without parts says one word.
use Rattle.std.proofs.Common.{◌≡◌, ◌∷◌, ◌++◌, length, map, OnOk, sym, ap, ap₂, subst, ◌∙◌, arith, rules}
use Rattle.std.proofs.lemmas.Grind.{common_steps}
use Rattle.std.proofs.lemmas.List.{length-map}
use Rattle.postcard_wire.specs.Tree.{Byte, trees}
use Rattle.postcard_wire.specs.Tree as nodes
use Rattle.postcard_schema.specs.declared.leaf.Integer.TheVariants.{U8}
use Rattle.postcard_schema.specs.declared.leaf.Leaf.TheVariants as leaves
use Rattle.postcard_value.specs.Tree.{tree}
use Rattle.postcard_value.specs.declared.value.Value.{Bytes, the_lemmas}
use Rattle.postcard_compat.specs.Telling.{Appends, words_of}
use Rattle.postcard_compat.specs.Said.{Count, each_said, integer_said, leaf_said}
use Rattle.postcard_compat.proofs.Telling.{count_trees, pushed}
use Rattle.postcard_compat.proofs.word.leaf.say_leaf.Goals as goal

pub returns-then-eq : goal.returns-then-eq
returns-then-eq c =
    let v = c.in-Bytes.bytes in
    let all = each_said (integer_said U8) (trees (map Byte v.items)) in
    let is : c.args.leaf ≡ leaves.Bytes = first_of (search rules, grind (arith, common_steps)) in
    let seen : tree (Bytes v) ≡ nodes.Seq (trees (map Byte v.items)) = search (rules, the_lemmas) in
    let says : Count (length v.items) ∷ all ≡ leaf_said c.args.leaf (tree c.args.value.now) =
    ap (λ n. Count n ∷ all) (sym (length-map v.items Byte) ∙ sym (count_trees (map Byte v.items))) ∙ sym (ap₂ leaf_said is (ap tree c.in-Bytes.is ∙ seen)) in
    subst (λ ws. OnOk c.say_bytes.result (Appends c.args.words.now.items c.say_bytes.new.words.items ws)) says c.say_bytes.ensures

pub returns : goal.returns
returns c =
    let is = c.same_leaf.ensures c.if-not-same_leaf.false in
    pushed _ _ _ c.in_ok-push.ensures.items
    ∙ ap (λ ws. words_of c.args.words.now.items ++ ws) (sym c.in_ok-found.ensures ∙ ap (λ l. leaf_said l (tree c.args.value.now)) is)
