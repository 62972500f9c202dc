-- The value has the tree of a number at its full width, since its bits are those of the JSON. Without bits there is no value.
use Rattle.std.proofs.Common.{◌≡◌, refl, rules}
use Rattle.postcard_schema.specs.Leaves.{is_signed, size_of}
use Rattle.postcard_schema.specs.declared.leaf.Leaf.TheVariants as leaves
use Rattle.postcard_value.specs.Numbers.{fixed_tree}
use Rattle.postcard_value.specs.Tree.{tree}
use Rattle.postcard_value.specs.declared.value.Value as made
use Rattle.postcard_value_text.proofs.LeafTrees.{is_fixed}
use Rattle.serde_json.specs.View.{view}
use Rattle.postcard_value_json_read.specs.Reading.{IsBitsJson}
use Rattle.postcard_value_json_read.proofs.Leaves.{LeafReading, only_by, none_by, one_bits}
use Rattle.postcard_value_json_read.proofs.leaf.find_fixed.Goals as goal

pub returns-in-Some : goal.returns-in-Some
returns-in-Some c =
    let d = view c.args.json.now in
    let o = c.args.order in
    let i = c.args.integer in
    let n = c.in-Some.bits in
    let seen : tree (made.Fixed o i n) ≡ fixed_tree o (size_of i) n = search (rules, made.the_lemmas) in
    rw seen (only_by (fixed_tree o (size_of i)) (LeafReading (leaves.Fixed o i)) (λ b. IsBitsJson (is_signed i) i b d) n d (λ u r. r.1) (is_fixed o (size_of i) n, (n, refl, c.in-Some.ensures))
    (λ m h. one_bits (is_signed i) i m n d h c.in-Some.ensures))

pub returns-in-None : goal.returns-in-None
returns-in-None c =
    let d = view c.args.json.now in
    let o = c.args.order in
    let i = c.args.integer in
    none_by (fixed_tree o (size_of i)) (LeafReading (leaves.Fixed o i)) (λ b. IsBitsJson (is_signed i) i b d) d (λ u r. r.1) c.in-None.ensures
