-- The text so far, followed by that of the parts from the loop's place on, is that of the whole type.
use Rattle.std.proofs.Common.{◌≡◌, ◌++◌, drop}
use Rattle.std.specs.Prelude.{string_bytes}
use Rattle.postcard_schema.specs.Named.{named_fields_text, named_parts_text, named_text, named_variants_text}
use Rattle.postcard_schema.specs.Views.{enum_view, named_views, struct_view, tuple_view, views}
use Rattle.postcard_schema_text.proofs.print.+add_type.Given as goal

abbrev pub invariant-add_parts-loop-part : goal.invariant-add_parts-loop-part
invariant-add_parts-loop-part l =
    string_bytes l.text ++ named_parts_text (views (drop l.part-index l.part-items))
    ≡ string_bytes l.fn.text ++ named_text (tuple_view (views l.part-items))

abbrev pub invariant-add_fields-loop-field : goal.invariant-add_fields-loop-field
invariant-add_fields-loop-field l =
    string_bytes l.text ++ named_fields_text (named_views (drop l.field-index l.field-items))
    ≡ string_bytes l.fn.text ++ named_text (struct_view (named_views l.field-items))

abbrev pub invariant-add_variants-loop-variant : goal.invariant-add_variants-loop-variant
invariant-add_variants-loop-variant l =
    string_bytes l.text ++ named_variants_text (named_views (drop l.variant-index l.variant-items))
    ≡ string_bytes l.fn.text ++ named_text (enum_view (named_views l.variant-items))
