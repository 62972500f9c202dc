-- The definitions that contracts cite, in reading order.
pub mod Number
pub mod Tree
pub mod Spelling
pub mod Reading
pub mod Digits
pub mod Error
pub mod Status
pub mod Words
-- The words that clauses of this crate cite, under one path.
pub use Rattle.postcard_wire.specs.Digits.{HasRead, PushReturns, ReadsNum, RefusesNum, Within}
pub use Rattle.postcard_wire.specs.Error.{error_text}
pub use Rattle.postcard_wire.specs.Number.{InRange, digits, max_digits, number, zigzag}
pub use Rattle.postcard_wire.specs.Reading.{AreDelimited, IsArray, IsBoolean, IsByte, IsChar}
pub use Rattle.postcard_wire.specs.Reading.{IsDelimited, IsEnd, IsGroup, IsInt, IsNum, IsOption}
pub use Rattle.postcard_wire.specs.Reading.{IsSeq, IsText, IsThen, IsVariant, PartsWellFormed}
pub use Rattle.postcard_wire.specs.Reading.{ReadsWellFormed}
pub use Rattle.postcard_wire.specs.Spelling.{BeginsWithChar, Spells, canonical}
pub use Rattle.postcard_wire.specs.Status.{number_of}
pub use Rattle.postcard_wire.specs.Tree.{IsWidth, Num, Trees, WellFormed}
pub use Rattle.postcard_wire.specs.Words.{AreBytes, AreCut, IsCut, IsNarrow, word_of}
pub use Rattle.postcard_wire.specs.declared.error.Error.TheVariants.{OutOfMemory}
