use Rattle.std.proofs.Common.{◌≡◌, length, map, ap, ◌∙◌}
use Rattle.std.proofs.lemmas.List.{length-map}
use Rattle.postcard_schema.specs.Views.{view}
use Rattle.postcard_schema_message.specs.Nodes.{arity, node_view, texts}
use Rattle.postcard_schema_message.proofs.ByKind.{array_made, array_unmade, enum_made, seq_made, seq_unmade, struct_made, tuple_made}
use Rattle.postcard_schema_message.proofs.root.root.Goals as goal

pub returns-in_err-element-in-Seq : goal.returns-in_err-element-in-Seq
returns-in_err-element-in-Seq c =
    rw c.in-Seq.is (seq_unmade c.args.parts.items _ _ c.from_residual-in_err-element-in-Seq.ensures.1 c.in_err-element-in-Seq.ensures.refused)

pub returns-in_err-element-in-Array : goal.returns-in_err-element-in-Array
returns-in_err-element-in-Array c =
    rw c.in-Array.is (array_unmade c.in-Array.count c.args.parts.items _ _ c.from_residual-in_err-element-in-Array.ensures.1 c.in_err-element-in-Array.ensures.refused)

pub returns-in_ok-element-in-Seq : goal.returns-in_ok-element-in-Seq
returns-in_ok-element-in-Seq c =
    let h = c.in_ok-element-in-Seq.ensures.held in rw c.in-Seq.is (seq_made c.in_ok-element-in-Seq.field-0 c.args.parts.items h.0 h.1)

pub returns-in_ok-element-in-Array : goal.returns-in_ok-element-in-Array
returns-in_ok-element-in-Array c =
    let h = c.in_ok-element-in-Array.ensures.held in rw c.in-Array.is (array_made c.in_ok-element-in-Array.field-0 c.in-Array.count c.args.parts.items h.0 h.1)

pub returns-in-Tuple : goal.returns-in-Tuple
returns-in-Tuple c = rw c.in-Tuple.is (tuple_made c.in-Tuple.field-0 c.args.parts)

pub returns-in_ok-with_names-in-Struct : goal.returns-in_ok-with_names-in-Struct
returns-in_ok-with_names-in-Struct c =
    let names = texts c.in-Struct.names.items in
    let long : length (map view c.args.parts.items) ≡ length names = length-map c.args.parts.items view ∙ c.requires ∙ ap (λ n. arity (node_view n)) c.in-Struct.is in
    rw c.in-Struct.is (struct_made names (map view c.args.parts.items) c.in_ok-with_names-in-Struct.field-0 long c.in_ok-with_names-in-Struct.ensures.named)

pub returns-in_ok-with_names-in-Enum : goal.returns-in_ok-with_names-in-Enum
returns-in_ok-with_names-in-Enum c =
    let names = texts c.in-Enum.names.items in
    let long : length (map view c.args.parts.items) ≡ length names = length-map c.args.parts.items view ∙ c.requires ∙ ap (λ n. arity (node_view n)) c.in-Enum.is in
    rw c.in-Enum.is (enum_made names (map view c.args.parts.items) c.in_ok-with_names-in-Enum.field-0 long c.in_ok-with_names-in-Enum.ensures.named)
