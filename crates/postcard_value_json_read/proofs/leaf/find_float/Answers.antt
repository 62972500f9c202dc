-- The value has the tree of a float, since its bits are those of the JSON. Without bits there is no value.
use Rattle.std.proofs.Common.{◌≡◌, refl, rules}
use Rattle.postcard_schema.specs.Leaves.{float_size}
use Rattle.postcard_schema.specs.declared.leaf.ByteOrder.TheVariants.{Little}
use Rattle.postcard_schema.specs.declared.leaf.Leaf.TheVariants as leaves
use Rattle.postcard_value.specs.Numbers.{fixed_tree}
use Rattle.postcard_value.specs.Tree.{tree}
use Rattle.postcard_value.specs.declared.value.Value as made
use Rattle.postcard_value_text.proofs.LeafTrees.{is_fixed}
use Rattle.serde_json.specs.View.{view}
use Rattle.postcard_value_json_read.specs.Reading.{IsFloatJson}
use Rattle.postcard_value_json_read.proofs.Leaves.{LeafReading, only_by, none_by}
use Rattle.postcard_value_json_read.proofs.leaf.find_float.Goals as goal

pub returns-in-Some : goal.returns-in-Some
returns-in-Some c =
    let d = view c.args.json.now in
    let f = c.args.float in
    let n = c.in-Some.bits in
    let seen : tree (made.Float f n) ≡ fixed_tree Little (float_size f) n = search (rules, made.the_lemmas) in
    rw seen (only_by (fixed_tree Little (float_size f)) (LeafReading (leaves.Float f)) (λ b. IsFloatJson f b d) n d (λ u r. r.1) (is_fixed Little (float_size f) n, (n, refl, c.in-Some.ensures.0)) c.in-Some.ensures.1)

pub returns-in-None : goal.returns-in-None
returns-in-None c =
    let d = view c.args.json.now in
    let f = c.args.float in
    none_by (fixed_tree Little (float_size f)) (LeafReading (leaves.Float f)) (λ b. IsFloatJson f b d) d (λ u r. r.1) c.in-None.ensures
