-- The JSON of a byte string, and that of a number at its full width by the bits of its bytes.
use Rattle.std.proofs.Common.{◌≡◌, ℕ, ◌%◌, ◌^◌, Some, map, sym, ap, ◌∙◌, rules}
use denote.Enum.Bare.{differs_false}
use Rattle.hex.specs.Hex.{encode_lower}
use Rattle.postcard_wire.specs.Tree.{Byte, Seq, trees}
use Rattle.postcard_schema.specs.contracts.leaf.ByteOrder.{the_type as order_type}
use Rattle.postcard_schema.specs.contracts.leaf.Integer.{the_type as integer_type}
use Rattle.postcard_schema.specs.declared.leaf.ByteOrder.{ByteOrder}
use Rattle.postcard_schema.specs.declared.leaf.Integer.{Integer}
use Rattle.postcard_schema.specs.declared.leaf.Leaf.TheVariants as leaves
use Rattle.postcard_schema.specs.Leaves.{is_signed, size_of}
use Rattle.postcard_value.specs.NumberLemmas.{bytes_of_trees, spell_modulo, value_of_bytes}
use Rattle.postcard_value.specs.Numbers.{bytes_of, fixed_tree, order_of}
use Rattle.postcard_value.specs.Tree.{tree}
use Rattle.postcard_value.specs.declared.value.Value.{the_lemmas}
use Rattle.postcard_value.specs.declared.value.Value.TheVariants as values
use Rattle.postcard_value_text.proofs.LeafTrees.{low_below}
use Rattle.serde_json.specs.Data.{string}
use Rattle.postcard_value_json.specs.Written.{bits_json, leaf_json}
use Rattle.postcard_value_json.proofs.leaf.write_leaf.Goals as goal

-- The bytes of a number are worth the bits that its type has, and so have their JSON.
bytes_worth : (order : ByteOrder) (i : Integer) (n : ℕ)
    → (order_of order).value (bytes_of (trees (map Byte ((order_of order).spell (size_of i) n)))) ≡ n % 256 ^ size_of i
bytes_worth order i n =
    let o = order_of order in
    ap (λ bs. o.value (bytes_of (trees (map Byte bs)))) (sym (spell_modulo order i n)) ∙ value_of_bytes order (size_of i) (n % 256 ^ size_of i) (low_below n i)

fixed_written : (order : ByteOrder) (i : Integer) (n : ℕ) → leaf_json (leaves.Fixed order i) (fixed_tree order (size_of i) n) ≡ Some (bits_json (is_signed i) (size_of i) (n % 256 ^ size_of i))
fixed_written order i n = ap (λ m. Some (bits_json (is_signed i) (size_of i) m)) (bytes_worth order i n)

pub returns-in_ok-write_bytes-in-Bytes-Bytes : goal.returns-in_ok-write_bytes-in-Bytes-Bytes
returns-in_ok-write_bytes-in-Bytes-Bytes c =
    let v = c.in-Bytes-Bytes.held in
    let seen : tree (values.Bytes v) ≡ Seq (trees (map Byte v.items)) = search (rules, the_lemmas) in
    rw (c.in-Bytes-Bytes.is-0, c.in-Bytes-Bytes.is-1, seen)
    (ap Some (c.in_ok-write_bytes-in-Bytes-Bytes.ensures ∙ ap (λ bytes. string (encode_lower bytes)) (sym (bytes_of_trees v.items))))

pub returns-in_ok-write_bits-in-Fixed-Fixed : goal.returns-in_ok-write_bits-in-Fixed-Fixed
returns-in_ok-write_bits-in-Fixed-Fixed c =
    let o = c.in-Fixed-Fixed.order in
    let i = c.in-Fixed-Fixed.integer in
    let n = c.in-Fixed-Fixed.bits in
    let order_is : o ≡ c.in-Fixed-Fixed.own_order = differs_false order_type tt o c.in-Fixed-Fixed.own_order (sym c.if-ne-3.ensures) in
    let integer_is : i ≡ c.in-Fixed-Fixed.own_integer = differs_false integer_type tt i c.in-Fixed-Fixed.own_integer (sym c.if-ne-4.ensures) in
    let seen : tree (values.Fixed o i n) ≡ fixed_tree o (size_of i) n = search (rules, the_lemmas) in
    rw (c.in-Fixed-Fixed.is-0, c.in-Fixed-Fixed.is-1, sym order_is, sym integer_is, seen)
    (ap Some c.in_ok-write_bits-in-Fixed-Fixed.ensures ∙ sym (fixed_written o i n))
