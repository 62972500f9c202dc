pub mod Layouts
pub mod Told
pub mod Places
pub mod Notes
pub mod Rows
pub mod Laws
-- The words that clauses of this crate cite, under one path.
pub use Rattle.std.specs.Fmt.{DisplaysOnOk, WritesOnOk}
pub use Rattle.std.specs.Io.KnownBytes.{Appends}
pub use Rattle.postcard_schema.specs.Paths.{path_text, plain_step}
pub use Rattle.postcard_value.specs.Tree.{tree}
pub use Rattle.postcard_value_text.specs.Layout.{layout_of}
pub use Rattle.postcard_value_text.specs.Shown.{text}
pub use Rattle.postcard_explain.specs.Explained.{bytes_of}
pub use Rattle.postcard_explain.specs.declared.line.Line.{Line}
pub use Rattle.pcard_print.specs.Lines.{offset}
pub use Rattle.pcard_print.specs.declared.error.PrintError.TheVariants.{NoJson}
pub use Rattle.pcard_print.specs.declared.notation.Notation.TheVariants.{Json}
pub use Rattle.pcard_explain.specs.Layouts.{IsCut, PrintsRow, blanks_of, bytes_text, head_text}
pub use Rattle.pcard_explain.specs.Layouts.{offset_size, offset_text, rows_layout, spaced}
pub use Rattle.pcard_explain.specs.Told.{IsMembers, elements_text, expected_text, kind_text}
pub use Rattle.pcard_explain.specs.Told.{object_text, separator_text, title_text, told_text}
pub use Rattle.pcard_explain.specs.Places.{Follows, IsOn, kind_steps, label_steps, steps_in}
pub use Rattle.pcard_explain.specs.Places.{steps_of}
pub use Rattle.pcard_explain.specs.Laws.{HasCodesOfGroups, PartsAfterValue}
pub use Rattle.pcard_explain.specs.Notes.{PrintsNote, PrintsNotes, after_notes, code_text}
pub use Rattle.pcard_explain.specs.Notes.{beyond_notes, frame_layout, frame_notes, has_zero}
pub use Rattle.pcard_explain.specs.Notes.{key_text}
pub use Rattle.pcard_explain.specs.Notes.{note_members, note_text, plain_note, plain_trailer}
pub use Rattle.pcard_explain.specs.Notes.{rest_notes, zero_text}
pub use Rattle.pcard_explain.specs.Rows.{IsSplit, PrintsLine, PrintsLines, PrintsRows}
pub use Rattle.pcard_explain.specs.declared.layout.Layout.{Layout}
