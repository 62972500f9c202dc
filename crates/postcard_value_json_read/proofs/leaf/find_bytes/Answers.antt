-- A string of hexadecimal digits denotes the bytes that are decoded, and no other string does.
use Rattle.std.proofs.Common.{◌≡◌, ℕ, ◌<◌, ◌^◌, List, length, refl, sym, subst, ◌∙◌, arith, rules}
use Rattle.std.specs.Prelude.{Ok, slice_index}
use Rattle.hex.specs.Hex.{decode_of}
use Rattle.hex.proofs.HexLemmas.{decode_of-same}
use Rattle.postcard_wire.specs.Reading.{IsByte, IsSeq}
use Rattle.postcard_schema.specs.declared.leaf.Leaf.TheVariants as leaves
use Rattle.postcard_value.specs.Tree.{tree}
use Rattle.postcard_value.specs.declared.value.Value.{Bytes, the_lemmas}
use Rattle.postcard_value_text.proofs.LeafTrees.{is_bytes}
use Rattle.serde_json.specs.Data.{string}
use Rattle.serde_json.specs.View.{view}
use Rattle.postcard_value_json_read.proofs.Forms.{string_is}
use Rattle.postcard_value_json_read.proofs.Leaves.{LeafReading, only_by, bytes_tree, bytes_form, same_text}
use Rattle.postcard_value_json_read.proofs.leaf.find_bytes.Goals as goal

pub returns-in-Ok : goal.returns-in-Ok
returns-in-Ok c =
    let d = view c.args.json.now in
    let v = c.in-Ok.held in
    let text = c.in-Some.text.now in
    let form : d ≡ string text = string_is d text (rw c.in-Some.is at c.as_str.ensures) in
    let seen : tree (Bytes v) ≡ bytes_tree v.items = search (rules, the_lemmas) in
    let few : length v.items < 2 ^ 64 = omega (arith, v.small) in
    let range = subst (λ bs. (k : ℕ) → slice_index bs k < 256) c.deref.ensures.value c.in_range.ensures.range in
    let list : IsSeq IsByte (bytes_tree v.items) = is_bytes v.items few range in
    let decoded : decode_of text ≡ Ok v.items = rw c.as_bytes.ensures.value at c.in-Ok.ensures.ok in
    rw seen (only_by bytes_tree (LeafReading leaves.Bytes) (λ bytes. (s : List ℕ) × (d ≡ string s) × (decode_of s ≡ Ok bytes)) v.items d (bytes_form d) (list, (v.items, text, refl, form, decoded))
    (λ y h. decode_of-same text y v.items (subst (λ s. decode_of s ≡ Ok y) (same_text h.0 text (sym h.1 ∙ form)) h.2) decoded))
