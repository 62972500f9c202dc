pub mod Agreement
-- The words that clauses of this crate cite, under one path.
pub use Rattle.postcard_wire.specs.Spelling.{canonical}
pub use Rattle.postcard_de.specs.Front.{TakesFromBytes}
pub use Rattle.postcard_value.specs.Tree.{tree}
pub use Rattle.postcard_value.specs.declared.value.Value.{Value}
pub use Rattle.postcard_described_host.specs.Agreement.{Agree, HostReads, HostTakes, Reading}
