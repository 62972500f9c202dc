-- The node that is read is of the type, and the value has the tree that was read.
use Rattle.std.proofs.Common.{◌≡◌, map, sym, ◌∙◌, rules}
use Rattle.postcard_wire.specs.Tree.{Byte, Seq, trees}
use Rattle.postcard_de_nodes.specs.SeenLemmas.{recast, seen_as}
use Rattle.postcard_value.specs.{Little, fixed_tree, float_size, size_of, tree}
use Rattle.postcard_value.specs.declared.value.Value.{Float, Bytes, Fixed, the_lemmas}
use Rattle.postcard_value.proofs.Nodes.{fixed_are}
use Rattle.postcard_value.proofs.Rows.{list_tree}
use Rattle.postcard_value.proofs.read.read_leaf.Goals as goal

pub returns-in_ok-deserialize_byte_buf-in-Bytes : goal.returns-in_ok-deserialize_byte_buf-in-Bytes
returns-in_ok-deserialize_byte_buf-in-Bytes g c =
    let v = c.in_ok-deserialize_byte_buf-in-Bytes.field-0 in
    let seen : tree (Bytes v) ≡ Seq (trees (map Byte v.items)) = search (rules, the_lemmas) in
    rw c.in-Bytes.is (recast (λ x h. list_tree Byte x v.items h ∙ sym seen) c.in_ok-deserialize_byte_buf-in-Bytes.ensures.reads)

pub returns-in_ok-read_float-in-Float : goal.returns-in_ok-read_float-in-Float
returns-in_ok-read_float-in-Float g c =
    let n = c.in_ok-read_float-in-Float.field-0 in
    let f = c.in-Float.float in
    let seen : tree (Float f n) ≡ fixed_tree Little (float_size f) n = search (rules, the_lemmas) in
    rw c.in-Float.is (seen_as (λ x a. a) (λ x r h. (r, fixed_are Little (float_size f) n x r h ∙ sym seen)) c.in_ok-read_float-in-Float.ensures)

pub returns-in_ok-read_bits-in-Fixed : goal.returns-in_ok-read_bits-in-Fixed
returns-in_ok-read_bits-in-Fixed g c =
    let n = c.in_ok-read_bits-in-Fixed.field-0 in
    let o = c.in-Fixed.order in
    let i = c.in-Fixed.integer in
    let seen : tree (Fixed o i n) ≡ fixed_tree o (size_of i) n = search (rules, the_lemmas) in
    rw c.in-Fixed.is (seen_as (λ x a. a) (λ x r h. (r, fixed_are o (size_of i) n x r h ∙ sym seen)) c.in_ok-read_bits-in-Fixed.ensures)
