-- `sizes_of` and the functions under it, by the kind of type. The sizes of parts are added, and of variants the least and the greatest are
-- kept.
use Rattle.std.proofs.Common.{◌≡◌, ◌⊎◌, inl, inr, Box, ◌<◌, ◌+◌, ◌^◌, Some, drop, arith, length}
use Rattle.postcard_schema.specs.Lemmas.{type_of_leaf, type_of_option, type_of_seq, type_of_map, type_of_array, type_of_struct, type_of_enum}
use Rattle.std.specs.declared.alloc.Global.{Global}
use Rattle.postcard_schema.specs.declared.schema.Schema.{Schema}
use Rattle.postcard_schema.specs.declared.schema.Schema.TheVariants.{Seq, Map}
use Rattle.postcard_schema.specs.Meaning.{type_of, types_of, reads}
use Rattle.postcard_schema_size.specs.Least.{IsLeastSize}
use Rattle.postcard_schema_size.proofs.LeafLeast.{leaf_is_least, option_least, list_least, array_least}
use Rattle.postcard_schema_size.proofs.LeastLemmas.{variant_least}
use Rattle.postcard_schema_size.proofs.Rows.{cut, ended, content_types, total_begin, total_step, total_end, best_step, all_below}
use Rattle.postcard_schema_size.proofs.walk.+walk.Goals as goal

pub tuple_sizes-loop-part-init : goal.tuple_sizes-loop-part-init
tuple_sizes-loop-part-init t c =
    total_begin c.exactly-total.result (types_of c.deref-part-items.result.now) c.exactly-total.ensures.least c.exactly-total.ensures.greatest

pub tuple_sizes-loop-part-preserved : goal.tuple_sizes-loop-part-preserved
tuple_sizes-loop-part-preserved t c =
    let xs = c.deref-part-items.result.now in
    let k = c.loop-part.part-index in
    let low : k < length xs = omega arith in
    total_step c.loop-part.total c.sizes_of.result c.both-total.result (type_of c.part-item.result) _ (types_of (drop (k + 1) xs)) (types_of xs)
    (cut types_of xs k c.part-item.result low c.part-item.is)
    c.sizes_of.ensures.least c.sizes_of.ensures.greatest c.both-total.ensures.least c.both-total.ensures.greatest c.loop-part.invariant

pub tuple_sizes-returns-clause-least : goal.tuple_sizes-returns-clause-least
tuple_sizes-returns-clause-least t c =
    let xs = c.deref-part-items.result.now in
    let none = ended types_of xs c.loop-part.part-index c.loop-part-test.false in
    rw (← c.deref-part-items.ensures.value) (total_end c.loop-part.total _ (types_of xs) none c.loop-part.invariant).0

pub struct_sizes-loop-field-init : goal.struct_sizes-loop-field-init
struct_sizes-loop-field-init t c =
    total_begin c.exactly-total.result (content_types c.deref-field-items.result.now) c.exactly-total.ensures.least c.exactly-total.ensures.greatest

pub struct_sizes-loop-field-preserved : goal.struct_sizes-loop-field-preserved
struct_sizes-loop-field-preserved t c =
    let xs = c.deref-field-items.result.now in
    let k = c.loop-field.field-index in
    let low : k < length xs = omega arith in
    total_step c.loop-field.total c.sizes_of.result c.both-total.result (type_of c.field-item.result.content) _ (content_types (drop (k + 1) xs)) (content_types xs)
    (cut content_types xs k c.field-item.result low c.field-item.is)
    c.sizes_of.ensures.least c.sizes_of.ensures.greatest c.both-total.ensures.least c.both-total.ensures.greatest c.loop-field.invariant

pub struct_sizes-returns-clause-least : goal.struct_sizes-returns-clause-least
struct_sizes-returns-clause-least t c =
    let xs = c.deref-field-items.result.now in
    let none = ended content_types xs c.loop-field.field-index c.loop-field-test.false in
    rw (← c.deref-field-items.ensures.value) (total_end c.loop-field.total _ (content_types xs) none c.loop-field.invariant).0

pub enum_sizes-loop-index-preserved : goal.enum_sizes-loop-index-preserved
enum_sizes-loop-index-preserved t c =
    let ns = c.deref-variant-items.result.now in
    let k = c.loop-index.index in
    let low : k < length ns = omega arith in
    let few : k + 1 < 2 ^ 64 = omega arith in
    best_step c.loop-index.sizes c.variant_sizes.result c.either-sizes.result ns k c.variant-item.result low few c.variant-item.is
    c.variant_sizes.ensures.least c.variant_sizes.ensures.greatest c.either-sizes.ensures.least c.either-sizes.ensures.greatest c.loop-index.invariant

pub enum_sizes-returns-clause-least : goal.enum_sizes-returns-clause-least
enum_sizes-returns-clause-least t c =
    rw (← c.deref-variant-items.ensures.value)
    (all_below c.deref-variant-items.result.now c.loop-index.index c.loop-index.sizes.least c.loop-index-test.false c.loop-index.invariant.least)

pub variant_sizes-returns-clause-least : goal.variant_sizes-returns-clause-least
variant_sizes-returns-clause-least t c =
    rw (c.both-sizes.ensures.least, c.exactly.ensures.least, c.varint_len.ensures)
    (variant_least c.args.index c.sizes_of.result.least (reads (type_of c.args.content.now)) (omega arith) c.sizes_of.ensures.least)

pub sizes_of-returns-in-Leaf-clause-least : goal.sizes_of-returns-in-Leaf-clause-least
sizes_of-returns-in-Leaf-clause-least t c = rw (c.in-Leaf.is, c.leaf_sizes.ensures.least, type_of_leaf) (leaf_is_least _)

pub sizes_of-returns-in-Option-clause-least : goal.sizes_of-returns-in-Option-clause-least
sizes_of-returns-in-Option-clause-least t c = rw (c.in-Option.is, type_of_option) (option_least _)

counted : (s : Schema) → ((b : Box Schema Global) × (s ≡ Seq b)) ⊎ ((k v : Box Schema Global) × (s ≡ Map k v)) → IsLeastSize (Some 1) (reads (type_of s))
counted s (inl (b, e)) = rw (e, type_of_seq) (list_least _)
counted s (inr (k, v, e)) = rw (e, type_of_map) (list_least _)

pub sizes_of-returns-in-Seq-clause-least : goal.sizes_of-returns-in-Seq-clause-least
sizes_of-returns-in-Seq-clause-least t c = counted _ c.in-Seq.is

pub sizes_of-returns-in-Seq-2-clause-least : goal.sizes_of-returns-in-Seq-2-clause-least
sizes_of-returns-in-Seq-2-clause-least t c = counted _ c.in-Seq.is

pub sizes_of-returns-in-Array-clause-least : goal.sizes_of-returns-in-Array-clause-least
sizes_of-returns-in-Array-clause-least t c =
    rw (c.in-Array.is, type_of_array, c.array_sizes.ensures.least, ← c.deref-in-Array.ensures)
    (array_least c.in-Array.count c.sizes_of-in-Array.result.least _ c.sizes_of-in-Array.ensures.least)

pub sizes_of-returns-in-Struct-clause-least : goal.sizes_of-returns-in-Struct-clause-least
sizes_of-returns-in-Struct-clause-least t c = rw (c.in-Struct.is, type_of_struct) c.struct_sizes.ensures.least

pub sizes_of-returns-in-Struct-clause-greatest : goal.sizes_of-returns-in-Struct-clause-greatest
sizes_of-returns-in-Struct-clause-greatest t c = rw (c.in-Struct.is, type_of_struct) c.struct_sizes.ensures.greatest

pub sizes_of-returns-in-Enum-clause-least : goal.sizes_of-returns-in-Enum-clause-least
sizes_of-returns-in-Enum-clause-least t c = rw (c.in-Enum.is, type_of_enum) c.enum_sizes.ensures.least

pub sizes_of-returns-in-Enum-clause-greatest : goal.sizes_of-returns-in-Enum-clause-greatest
sizes_of-returns-in-Enum-clause-greatest t c = rw (c.in-Enum.is, type_of_enum) c.enum_sizes.ensures.greatest
