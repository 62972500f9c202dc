-- The value of the bytes of a number is its bits.
use Rattle.std.proofs.Common.{◌≡◌, ◌∷◌, [], sym, ap, ◌∙◌, rules}
use Rattle.postcard_schema.specs.declared.leaf.Leaf.TheVariants as leaves
use Rattle.postcard_schema.specs.Leaves.{is_signed, size_of}
use Rattle.postcard_value.specs.Numbers.{fixed_tree}
use Rattle.postcard_value.specs.Tree.{tree}
use Rattle.postcard_value.specs.declared.value.Value.{Fixed, the_lemmas}
use Rattle.postcard_compat.specs.Said.{Number, fixed_number, leaf_said}
use Rattle.postcard_compat.proofs.LeafWords.{bytes_worth}
use Rattle.postcard_compat.proofs.word.leaf.leaf_word.Goals as goal

pub returns-in-Fixed : goal.returns-in-Fixed
returns-in-Fixed c =
    let o = c.in-Fixed.order in
    let i = c.in-Fixed.integer in
    let n = c.in-Fixed.bits in
    let seen : tree (Fixed o i n) ≡ fixed_tree o (size_of i) n = search (rules, the_lemmas) in
    ap (leaf_said (leaves.Fixed o i)) (ap tree c.in-Fixed.is ∙ seen)
    ∙ (ap (λ m. Number (fixed_number (is_signed i) (size_of i) m) ∷ []) (bytes_worth o i n) ∙ ap (λ w. w ∷ []) (sym c.number-in-Fixed.ensures))
