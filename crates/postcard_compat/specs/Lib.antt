-- The definitions that contracts cite.
pub mod Said
pub mod Serving
pub mod Parts
pub mod Telling
pub mod Examples
pub mod Comparing
-- The words that clauses of this crate cite, under one path.
pub use Rattle.postcard_wire.specs.Spelling.{Spells, canonical}
pub use Rattle.postcard_wire.specs.Tree.{trees}
pub use Rattle.postcard_schema.specs.Leaves.{float_size, is_signed, size_of}
pub use Rattle.postcard_schema.specs.Meaning.{MessageType, MessageTypes, array, contents, entry_of, group, leaf}
pub use Rattle.postcard_schema.specs.Meaning.{no_types, option, reads, row_of, then_type, type_of, types_of}
pub use Rattle.postcard_value.specs.Fronts.{HasNoFront}
pub use Rattle.postcard_value.specs.Tree.{tree}
pub use Rattle.postcard_compat.specs.Said.{Count, Number, array_said, choice_said, each_said, fixed_number}
pub use Rattle.postcard_compat.specs.Said.{group_said, integer_said, leaf_said, list_said, option_said}
pub use Rattle.postcard_compat.specs.Said.{said, said_all, said_at}
pub use Rattle.postcard_compat.specs.Serving.{AllServe, AllServeFront, SameMessages, SameRows}
pub use Rattle.postcard_compat.specs.Serving.{Serves, ServesFront, VariantsServe}
pub use Rattle.postcard_compat.specs.Parts.{integer_leaf, part_types, parts_of}
pub use Rattle.postcard_compat.specs.Telling.{Appends, IsPair, word_kind, word_of, words_of}
pub use Rattle.postcard_compat.specs.Examples.{IsExample, IsMessage, IsNoMessage, IsPlaced, IsReading, ShowsPlace}
pub use Rattle.postcard_compat.specs.Comparing.{HasMove, IsCompared, Means, NeverMisreads, Relates, Shows, is_move}
