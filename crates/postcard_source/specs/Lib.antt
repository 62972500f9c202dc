pub mod Steps
pub mod Tokens
pub mod Raw
pub mod Lexical
pub mod Kept
pub mod Items
pub mod Printed
pub mod Words
pub mod Expands
pub mod Openings
pub mod Places
pub mod Files
-- The words that clauses of this crate cite, under one path.
pub use Rattle.postcard_schema_text.specs.Grammar.{IsExpression}
pub use Rattle.postcard_schema.specs.declared.schema.Schema.{Schema}
pub use Rattle.postcard_source.specs.Expands.{AreInOrder, Counts, CountsAt, EntersAgain, Finds, HasMore}
pub use Rattle.postcard_source.specs.Expands.{HasMoreAt, HasProblem, IsMember, IsSpelledBy, Refers, Spelled, Writes}
pub use Rattle.postcard_source.specs.Files.{HasProblemOf, IsExpressionOf, IsTypeOf, IsWithin}
pub use Rattle.postcard_source.specs.Items.{AreDeclarations, BeginsItem, Declares, EndsItem}
pub use Rattle.postcard_source.specs.Items.{IsItemEnd, IsKeyword, NamesDiffer, ReadsItem}
pub use Rattle.postcard_source.specs.Kept.{AreKept, EndsBefore, HasBracket, IsAttribute}
pub use Rattle.postcard_source.specs.Kept.{IsEmptyAngle, IsLimit, IsPassed, IsScope, KeepStep}
pub use Rattle.postcard_source.specs.Lexical.{Begins, CommentStep, HasDepth, IsBlank}
pub use Rattle.postcard_source.specs.Lexical.{IsBlockComment, IsGap, IsLetter, IsLifetime}
pub use Rattle.postcard_source.specs.Lexical.{IsLineComment, IsLiteral, IsOtherAt, IsQuoted}
pub use Rattle.postcard_source.specs.Lexical.{IsPlainAt, IsRead, IsSignAt, IsTokenAt, ReadStep}
pub use Rattle.postcard_source.specs.Openings.{BeginsType, IsOpened, Opens}
pub use Rattle.postcard_source.specs.Places.{IsLineStart, IsPlace}
pub use Rattle.postcard_source.specs.Printed.{IsProblemOf, file_error_text, file_problem_text, is_of_type}
pub use Rattle.postcard_source.specs.Raw.{IsHashFront, IsRaw, IsRawOpening, IsRawPrefix, IsRawQuoted}
pub use Rattle.postcard_source.specs.Tokens.{BeginsName, IsAt, IsBefore, IsName, IsNameAt, IsWordFront}
pub use Rattle.postcard_source.specs.Tokens.{Says, is_of_word as is_of_word_byte, spelling}
pub use Rattle.postcard_source.specs.Words.{EndsDiscriminant, IsAliasText, IsDiscriminant, IsEnumText}
pub use Rattle.postcard_source.specs.Words.{IsLastComma, IsPlainText, IsSign, IsStructText, IsText}
pub use Rattle.postcard_source.specs.declared.declaration.Declaration.{Declaration}
pub use Rattle.postcard_source.specs.declared.declaration.Kind.{Kind}
pub use Rattle.postcard_source.specs.declared.error.FileProblem.TheVariants.{ItemOpen, TooLong}
