-- The text taken so far, followed by that of the parts from the loop's place on, is that of the whole type.
use Rattle.std.proofs.Common.{◌++◌, drop}
use Rattle.std.specs.Prelude.{codes}
use Rattle.crc.specs.Digest.{Progress}
use Rattle.postcard_schema.specs.Views.{named_views, struct_view, tuple_view, views}
use Rattle.postcard_key.specs.Keys.{Continues}
use Rattle.postcard_schema.specs.Named.{named_fields_text, named_parts_text, named_text, named_variants_text}
use Rattle.postcard_key.proofs.named.+add_named.Given as goal

abbrev pub invariant-add_parts-loop-part : goal.invariant-add_parts-loop-part
invariant-add_parts-loop-part l = (e : Progress) → Continues l.digest (named_parts_text (views (drop l.part-index l.part-items))) e
    → Continues l.fn.digest (named_text (tuple_view (views l.part-items))) e

abbrev pub invariant-add_fields-loop-field : goal.invariant-add_fields-loop-field
invariant-add_fields-loop-field l = (e : Progress) → Continues l.digest (named_fields_text (named_views (drop l.field-index l.field-items))) e
    → Continues l.fn.digest (named_text (struct_view (named_views l.field-items))) e

abbrev pub invariant-add_variants-loop-variant : goal.invariant-add_variants-loop-variant
invariant-add_variants-loop-variant l = (e : Progress) → Continues l.digest (named_variants_text (named_views (drop l.variant-index l.variant-items))) e
    → Continues l.fn.digest (codes "(" ++ named_variants_text (named_views l.variant-items)) e
