-- Why reading a single node fails: the definitions of `postcard_de_nodes`, under the path of this
-- crate.
pub use Rattle.postcard_de_nodes.specs.Unfit.{NotABit, BadBool, BadOption, WantsChar, TooLong}
pub use Rattle.postcard_de_nodes.specs.Unfit.{NoChar, BadChar, BadBytes, ContentRefuses, LongText}
pub use Rattle.postcard_de_nodes.specs.Unfit.{BadShortText, ZeroByte, ZeroNumber, BadIndex}
pub use Rattle.postcard_de_nodes.specs.Unfit.{VariantRefuses}
