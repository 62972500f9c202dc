-- A node with several parts, and then those parts.
use Rattle.postcard_schema_message.proofs.Pushed.{enum_nodes, struct_nodes, tuple_nodes, with_parts}
use Rattle.postcard_schema_message.proofs.nodes.+push_type.Goals as goal

pub push_type-returns-in_ok-push-in-Tuple : goal.push_type-returns-in_ok-push-in-Tuple
push_type-returns-in_ok-push-in-Tuple t c =
    with_parts c.push_parts.result _ _ _ _ _ _ (tuple_nodes c.args.schema.now c.in-Tuple.parts c.len.result c.in-Tuple.is c.len.ensures) c.in_ok-push-in-Tuple.ensures c.push_parts.ensures

pub push_type-returns-in_ok-push-in-Struct : goal.push_type-returns-in_ok-push-in-Struct
push_type-returns-in_ok-push-in-Struct t c =
    with_parts c.push_contents.result _ _ _ _ _ _ (struct_nodes c.args.schema.now c.in-Struct.fields _ c.in-Struct.is c.in_ok-names_of-in-Struct.ensures) c.in_ok-push-in-Struct.ensures c.push_contents.ensures

pub push_type-returns-in_ok-push-in-Enum : goal.push_type-returns-in_ok-push-in-Enum
push_type-returns-in_ok-push-in-Enum t c =
    with_parts c.push_contents-in-Enum.result _ _ _ _ _ _ (enum_nodes c.args.schema.now c.in-Enum.variants _ c.in-Enum.is c.in_ok-names_of-in-Enum.ensures) c.in_ok-push-in-Enum.ensures c.push_contents-in-Enum.ensures
