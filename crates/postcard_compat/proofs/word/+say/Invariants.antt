-- The words so far, and those of the parts left, are the words of all.
use Rattle.std.proofs.Common.{map}
use Rattle.postcard_wire.specs.Tree.{trees}
use Rattle.postcard_schema.specs.Meaning.{contents, entry_of, type_of, types_of}
use Rattle.postcard_value.specs.Tree.{tree}
use Rattle.postcard_compat.specs.Said.{each_said, elements_said, said, said_all}
use Rattle.postcard_compat.proofs.Telling.{Going, each_left, elements_left, parts_left}
use Rattle.postcard_compat.proofs.word.+say.Given as goal

abbrev pub invariant-say_list-loop-item : goal.invariant-say_list-loop-item
invariant-say_list-loop-item l =
    let f = said (type_of l.element) in
    Going l.initial.words.items l.words.items (each_left f l.item-items l.item-index) (each_said f (trees (map tree l.item-items)))

abbrev pub invariant-say-loop-entry : goal.invariant-say-loop-entry
invariant-say-loop-entry l =
    let f = said (entry_of (type_of l.key.value) (type_of l.content.value)) in
    Going l.initial.words.items l.words.items (each_left f l.entry-items l.entry-index) (each_said f (trees (map tree l.entry-items)))

abbrev pub invariant-say_array-loop-item : goal.invariant-say_array-loop-item
invariant-say_array-loop-item l =
    let f = said (type_of l.element) in
    Going l.initial.words.items l.words.items (elements_left f l.item-items l.item-index) (elements_said f (trees (map tree l.item-items)))

abbrev pub invariant-say_tuple-loop-index : goal.invariant-say_tuple-loop-index
invariant-say_tuple-loop-index l =
    Going l.initial.words.items l.words.items (parts_left l.part-items l.items.items l.index)
    (said_all (types_of l.part-items) (trees (map tree l.items.items)))

abbrev pub invariant-say_struct-loop-index : goal.invariant-say_struct-loop-index
invariant-say_struct-loop-index l =
    Going l.initial.words.items l.words.items (parts_left (contents l.field-items) l.items.items l.index)
    (said_all (types_of (contents l.field-items)) (trees (map tree l.items.items)))
