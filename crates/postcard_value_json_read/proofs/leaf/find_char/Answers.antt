-- A string denotes a character if and only if it has just this one.
use Rattle.std.proofs.Common.{◌≡◌, refl, sym, ap, ◌∙◌, rules}
use Rattle.std.specs.Char.{encode_utf8, IsScalar}
use Rattle.postcard_wire.specs.Tree as nodes
use Rattle.postcard_schema.specs.declared.leaf.Leaf.TheVariants as leaves
use Rattle.postcard_value.specs.Tree.{tree}
use Rattle.postcard_value.specs.declared.value.Value as made
use Rattle.postcard_value_text.proofs.LeafFronts.{one_character}
use Rattle.serde_json.specs.Data.{string}
use Rattle.serde_json.specs.View.{view}
use Rattle.postcard_value_json_read.proofs.Forms.{string_is}
use Rattle.postcard_value_json_read.proofs.Leaves.{LeafReading, only_by, char_form, same_text}
use Rattle.postcard_value_json_read.proofs.leaf.find_char.Goals as goal

pub returns-in-Ok : goal.returns-in-Ok
returns-in-Ok c =
    let d = view c.args.json.now in
    let text = c.in-Some.text.now in
    let x = c.in-Ok.c in
    let form : d ≡ string text = string_is d text (rw c.in-Some.is at c.as_str.ensures) in
    let seen : tree (made.Char x) ≡ nodes.Char x = search (rules, made.the_lemmas) in
    let scalar : IsScalar x = search rules in
    let spelled : d ≡ string (encode_utf8 x) = form ∙ ap string c.in-Ok.ensures.value in
    rw seen (only_by nodes.Char (LeafReading leaves.Char) (λ y. IsScalar y × (d ≡ string (encode_utf8 y))) x d (char_form d) ((x, refl, scalar), spelled)
    (λ y h. one_character y x (same_text (encode_utf8 y) (encode_utf8 x) (sym h.1 ∙ spelled))))
