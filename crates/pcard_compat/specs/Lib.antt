pub mod Requests
pub mod Types
pub mod Texts
pub mod Jsons
pub mod Outcomes
pub mod Calls
-- The words that clauses of this crate cite, under one path.
pub use Rattle.std.specs.Prelude.{codes}
pub use Rattle.hex.specs.Hex.{encode_lower}
pub use Rattle.postcard_schema.specs.Meaning.{type_of}
pub use Rattle.postcard_schema_text.specs.Grammar.{IsExpression}
pub use Rattle.postcard_compat.specs.Serving.{Serves}
pub use Rattle.postcard_value.specs.Tree.{tree}
pub use Rattle.postcard_value_text.specs.Layout.{layout_of}
pub use Rattle.postcard_value_text.specs.Shown.{text}
pub use Rattle.pcard_print.specs.Lines.{bytes_member, more_text, noun_of, place_text}
pub use Rattle.pcard_message.specs.Format.{TypeFails}
pub use Rattle.pcard_compat.specs.declared.request.Switch.{Switch}
pub use Rattle.pcard_compat.specs.Requests.{IsBadSwitch, IsMisuse, IsMisused, IsNewSwitch, IsRequest}
pub use Rattle.pcard_compat.specs.Requests.{SwitchesThen, begins_switch, is_given, misuse_text}
pub use Rattle.pcard_compat.specs.Requests.{no_options, switch_name, with_switch}
pub use Rattle.pcard_compat.specs.Types.{IsNoType, IsTypeOf}
pub use Rattle.pcard_compat.specs.Texts.{AreEach, IsExampleText, IsLine, IsReadingText, IsText}
pub use Rattle.pcard_compat.specs.Texts.{Shows, after_name, before_name, bytes_after, first_line}
pub use Rattle.pcard_compat.specs.Texts.{place_name, side_name, verdict_name}
pub use Rattle.pcard_compat.specs.Jsons.{IsExampleMember, IsJson, IsMember, IsObject, IsOther}
pub use Rattle.pcard_compat.specs.Jsons.{IsReadingMembers}
pub use Rattle.pcard_compat.specs.Outcomes.{FailsToShow, IsBothWays, IsHostLine, IsHostOf, IsOutcome}
pub use Rattle.pcard_compat.specs.Outcomes.{IsShown, IsWay, is_safe}
pub use Rattle.pcard_compat.specs.Calls.{Answers, EndsCall, PrintsOutcome, RefusesType, RefusesWords}
