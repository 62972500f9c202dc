-- The value has the tree of an integer, since its bits are those of the JSON. Without bits there is no value.
use Rattle.std.proofs.Common.{◌≡◌, refl, rules}
use Rattle.postcard_schema.specs.Leaves.{is_signed}
use Rattle.postcard_schema.specs.declared.leaf.Leaf.TheVariants as leaves
use Rattle.postcard_value.specs.Numbers.{integer_tree}
use Rattle.postcard_value.specs.Tree.{tree}
use Rattle.postcard_value.specs.declared.value.Value as made
use Rattle.postcard_value_text.proofs.LeafTrees.{is_integer}
use Rattle.serde_json.specs.View.{view}
use Rattle.postcard_value_json_read.specs.Reading.{IsBitsJson}
use Rattle.postcard_value_json_read.proofs.Leaves.{LeafReading, only_by, none_by, one_bits}
use Rattle.postcard_value_json_read.proofs.leaf.find_integer.Goals as goal

pub returns-in-Some : goal.returns-in-Some
returns-in-Some c =
    let d = view c.args.json.now in
    let i = c.args.integer in
    let n = c.in-Some.bits in
    let seen : tree (made.Integer i n) ≡ integer_tree i n = search (rules, made.the_lemmas) in
    rw seen (only_by (integer_tree i) (LeafReading (leaves.Integer i)) (λ b. IsBitsJson (is_signed i) i b d) n d (λ u r. r.1) (is_integer i n, (n, refl, c.in-Some.ensures))
    (λ m h. one_bits (is_signed i) i m n d h c.in-Some.ensures))

pub returns-in-None : goal.returns-in-None
returns-in-None c =
    let d = view c.args.json.now in
    let i = c.args.integer in
    none_by (integer_tree i) (LeafReading (leaves.Integer i)) (λ b. IsBitsJson (is_signed i) i b d) d (λ u r. r.1) c.in-None.ensures
