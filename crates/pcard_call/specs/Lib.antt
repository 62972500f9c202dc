pub mod Words
pub mod Options
pub mod Calls
pub mod Texts
-- The words that clauses of this crate cite, under one path.
pub use Rattle.pcard_call.specs.declared.verb.Verb.{Verb}
pub use Rattle.pcard_call.specs.declared.options.OptionName.{OptionName}
pub use Rattle.pcard_call.specs.declared.misuse.Misuse.{Misuse}
pub use Rattle.pcard_call.specs.Words.{verb_name}
pub use Rattle.pcard_call.specs.Options.{Given, SaysLongest, WithValue, given_of, has_value}
pub use Rattle.pcard_call.specs.Options.{is_empty, is_given, nothing_given, option_name, takes}
pub use Rattle.pcard_call.specs.Options.{usage_of, value_of, with_switch}
pub use Rattle.pcard_call.specs.Calls.{IsBadOption, IsBadValue, IsCall, IsMisuse, IsMisused}
pub use Rattle.pcard_call.specs.Calls.{IsNewOption, OptionsThen, begins_option, fits, is_input}
pub use Rattle.pcard_call.specs.Calls.{names_input}
pub use Rattle.pcard_call.specs.Texts.{misuse_text}
