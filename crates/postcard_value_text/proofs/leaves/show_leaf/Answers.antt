-- A number at its full width is shown by the bits that its bytes have.
use Rattle.std.proofs.Common.{◌≡◌, sym, rules}
use Rattle.std.proofs.Output.{displays_on_ok_of_eq}
use denote.Enum.Bare.{differs_false}
use Rattle.postcard_schema.specs.contracts.leaf.ByteOrder.{the_type as order_type}
use Rattle.postcard_schema.specs.contracts.leaf.Integer.{the_type as integer_type}
use Rattle.postcard_value.specs.Numbers.{fixed_tree}
use Rattle.postcard_value.specs.declared.value.Value.{the_lemmas}
use Rattle.postcard_value.specs.declared.value.Value.TheVariants as values
use Rattle.postcard_value_text.specs.{size_of, tree}
use Rattle.postcard_value_text.proofs.LeafTrees.{fixed_shown}
use Rattle.postcard_value_text.proofs.leaves.show_leaf.Goals as goal

pub returns-else-ne-4-clause-shown : goal.returns-else-ne-4-clause-shown
returns-else-ne-4-clause-shown g c =
    let o = c.in-Fixed-Fixed.order in
    let i = c.in-Fixed-Fixed.integer in
    let n = c.in-Fixed-Fixed.bits in
    let order_is : o ≡ c.in-Fixed-Fixed.own_order = differs_false order_type tt o c.in-Fixed-Fixed.own_order (sym c.if-ne-3.ensures) in
    let integer_is : i ≡ c.in-Fixed-Fixed.own_integer = differs_false integer_type tt i c.in-Fixed-Fixed.own_integer (sym c.if-ne-4.ensures) in
    let seen : tree (values.Fixed o i n) ≡ fixed_tree o (size_of i) n = search (rules, the_lemmas) in
    rw (c.in-Fixed-Fixed.is-0, c.in-Fixed-Fixed.is-1, sym order_is, sym integer_is, seen)
    (displays_on_ok_of_eq g.W.Write.write_str_gives c.args.f.now c.show_bits-in-Fixed-Fixed.new.f c.show_bits-in-Fixed-Fixed.result _ _ (sym (fixed_shown o i n)) c.show_bits-in-Fixed-Fixed.ensures)
