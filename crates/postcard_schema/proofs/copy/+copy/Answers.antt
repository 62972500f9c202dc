-- `try_clone` and the loops under it: each part is copied, so the copy of a struct or an enum has the original's type and names.
use Rattle.std.proofs.Common.{map, ap, ◌∙◌}
use Rattle.std.proofs.lemmas.List.{take_all}
use Rattle.postcard_schema.specs.Lemmas.{type_of_struct, type_of_enum}
use Rattle.postcard_schema.specs.Meaning.{group, choice, type_of}
use Rattle.postcard_schema.specs.Views.{struct_view, enum_view}
use Rattle.postcard_schema.proofs.ViewLemmas.{same_types, view_struct, view_enum}
use Rattle.postcard_schema.proofs.copy.+copy.Goals as goal

pub copy-returns-in_ok-all_named-in-Struct-clause-same : goal.copy-returns-in_ok-all_named-in-Struct-clause-same
copy-returns-in_ok-all_named-in-Struct-clause-same t c =
    rw (c.in-Struct.is, view_struct c.in-Struct.fields, view_struct) (ap struct_view c.in_ok-all_named-in-Struct.ensures.same)

pub copy-returns-in_ok-all_named-in-Struct-clause-same_type : goal.copy-returns-in_ok-all_named-in-Struct-clause-same_type
copy-returns-in_ok-all_named-in-Struct-clause-same_type t c =
    rw (c.in-Struct.is, type_of_struct c.in-Struct.fields, type_of_struct) (ap group c.in_ok-all_named-in-Struct.ensures.same_type)

pub copy-returns-in_ok-all_named-in-Enum-clause-same : goal.copy-returns-in_ok-all_named-in-Enum-clause-same
copy-returns-in_ok-all_named-in-Enum-clause-same t c =
    rw (c.in-Enum.is, view_enum c.in-Enum.variants, view_enum) (ap enum_view c.in_ok-all_named-in-Enum.ensures.same)

pub copy-returns-in_ok-all_named-in-Enum-clause-same_type : goal.copy-returns-in_ok-all_named-in-Enum-clause-same_type
copy-returns-in_ok-all_named-in-Enum-clause-same_type t c =
    rw (c.in-Enum.is, type_of_enum c.in-Enum.variants, type_of_enum) (ap choice c.in_ok-all_named-in-Enum.ensures.same_type)

pub all_named-returns-clause-same_type : goal.all_named-returns-clause-same_type
all_named-returns-clause-same_type t c =
    let all = take_all c.loop-part.part-index c.deref-part-items.result.now c.loop-part-test.false ∙ c.deref-part-items.ensures.value in
    same_types c.loop-part.copies.items c.args.named.now.items (c.loop-part.invariant.same_type ∙ ap (map (λ n. type_of n.content)) all)
