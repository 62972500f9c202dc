-- Why a reading call fails: the definitions of `postcard_de_nodes`, under the path of this crate.
pub use Rattle.postcard_de_nodes.specs.Refuses.{Ends, IsBad, RefusesFrom, Refuses}
pub use Rattle.postcard_de_nodes.specs.Refuses.{WantsByte, WantsBytes, NoneBad, WantsDigit, BadNumber}
pub use Rattle.postcard_de_nodes.specs.Refuses.{WantsText, BadText}
