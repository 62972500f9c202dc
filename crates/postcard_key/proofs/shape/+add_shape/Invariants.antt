-- The text taken so far, followed by that of the types from the loop's place on, is that of the whole type.
use Rattle.std.proofs.Common.{drop}
use Rattle.crc.specs.Digest.{Progress}
use Rattle.postcard_schema.specs.Meaning.{choice, contents, group, types_of}
use Rattle.postcard_key.specs.Keys.{Continues}
use Rattle.postcard_key.specs.Shape.{parts_text, shape_text, variants_text}
use Rattle.postcard_key.proofs.shape.+add_shape.Given as goal

abbrev pub invariant-add_parts-loop-part : goal.invariant-add_parts-loop-part
invariant-add_parts-loop-part l = (e : Progress) → Continues l.digest (parts_text (types_of (drop l.part-index l.part-items))) e
    → Continues l.fn.digest (shape_text (group (types_of l.part-items))) e

abbrev pub invariant-add_fields-loop-field : goal.invariant-add_fields-loop-field
invariant-add_fields-loop-field l = (e : Progress) → Continues l.digest (parts_text (types_of (contents (drop l.field-index l.field-items)))) e
    → Continues l.fn.digest (shape_text (group (types_of (contents l.field-items)))) e

abbrev pub invariant-add_variants-loop-variant : goal.invariant-add_variants-loop-variant
invariant-add_variants-loop-variant l = (e : Progress) → Continues l.digest (variants_text (types_of (contents (drop l.variant-index l.variant-items)))) e
    → Continues l.fn.digest (shape_text (choice (types_of (contents l.variant-items)))) e
