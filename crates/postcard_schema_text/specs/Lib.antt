pub mod Angled
pub mod Literals
pub mod Text
pub mod Phrases
pub mod Names
pub mod Grammar
pub mod Expressible
pub mod Printed
pub mod Fronts
pub mod FrontLemmas
pub mod LiteralLemmas
-- The words that clauses of this crate cite, under one path.
pub use Rattle.std.specs.Char.{digit_value, is_ascii_whitespace}
pub use Rattle.std.specs.List.{AllPass}
pub use Rattle.std.specs.Str.{IsTrimAsciiStart}
pub use Rattle.std.specs.Str.Parse.{IsNumeral}
pub use Rattle.postcard_schema_text.specs.Angled.{IsAngledName, IsHolderOf, IsIntegerName, IsNameOf, IsPairOf, IsTypeName, IsWide, MayHold, MayPair}
pub use Rattle.postcard_schema.specs.Named.{named_text}
pub use Rattle.postcard_schema.specs.Views.{named_views, view, views}
pub use Rattle.postcard_schema_text.specs.Expressible.{AllHaveText, AreSomeNames, ElementHasFlaw, ElementHasText}
pub use Rattle.postcard_schema_text.specs.Expressible.{EntryHasFlaw, EntryHasText, HasFlaw, HasNamesFlaw, HasNoExpression, HasText}
pub use Rattle.postcard_schema_text.specs.Expressible.{IsExpressible, IsFreeIn, IsNameFor, IsTakenBy, IsTextRefusal}
pub use Rattle.postcard_schema_text.specs.Expressible.{LeafHasFlaw, LeafHasText, NamedHaveFlaw, NamedHaveText, SomeHasFlaw}
pub use Rattle.postcard_schema_text.specs.Fronts.{Anything, IsNamed, IsRefusal, ReadsNamed, ReadsType}
pub use Rattle.postcard_schema_text.specs.Fronts.{Starts, StartsEnum, follows_type, follows_variant}
pub use Rattle.postcard_schema_text.specs.Fronts.{follows_name as is_after_first_name}
pub use Rattle.postcard_schema_text.specs.Grammar.{IsAngledRest, IsBracesRest, IsContent, IsEndedBy}
pub use Rattle.postcard_schema_text.specs.Grammar.{IsEnumText, IsExpression, IsField, IsFieldsRest}
pub use Rattle.postcard_schema_text.specs.Grammar.{IsListRest, IsMapRest, IsNew, IsOfOne, IsOfTwo}
pub use Rattle.postcard_schema_text.specs.Grammar.{IsPlain, IsReferred, IsTupleRest, IsType}
pub use Rattle.postcard_schema_text.specs.Grammar.{IsVariantText, IsWorded}
pub use Rattle.postcard_schema_text.specs.Literals.{AreDigits, IsLiteral, IsNoNumber, is_of_digits}
pub use Rattle.postcard_schema_text.specs.Literals.{is_underscore, radix_of, with_byte}
pub use Rattle.postcard_schema_text.specs.Literals.{without_underscores}
pub use Rattle.postcard_schema_text.specs.Names.{IsCalled, IsNewTo, IsTakenIn}
pub use Rattle.postcard_schema_text.specs.Printed.{expression_error_text, problem_text, text_error_text}
pub use Rattle.postcard_schema_text.specs.Text.{EndsWord, GoesOnBy, IsCount, IsIdentifier, IsSign}
pub use Rattle.postcard_schema_text.specs.Text.{IsVariantName, IsWord, TakesLifetime, TakesPhrase}
pub use Rattle.postcard_schema_text.specs.Text.{characters, is_of_word as is_of_word_byte}
pub use Rattle.postcard_schema_text.specs.declared.names.TypeName.{TypeName}
