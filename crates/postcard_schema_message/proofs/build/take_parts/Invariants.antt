-- The parts so far, and then the row, are what the row was.
use Rattle.std.proofs.Common.{◌≡◌, ◌≤◌, ◌++◌, length, map}
use Rattle.postcard_schema.specs.Views.{view}
use Rattle.postcard_schema_message.specs.Bounded.{IsFull}
use Rattle.postcard_schema_message.specs.Building.{AreBuilt, forest}
use Rattle.postcard_schema_message.specs.Making.{Each, greatest}
use Rattle.postcard_schema_message.proofs.build.take_parts.Given as goal

abbrev pub invariant-loop : goal.invariant-loop
invariant-loop l = record {
  taken : forest l.fn.row.items ≡ map view l.schemas.items ++ forest l.row.items;
  built : AreBuilt l.row.items;
  many : length l.schemas.items ≡ l.counter;
  deep : l.depth ≡ greatest (map view l.schemas.items);
  low : l.depth ≤ 384;
  full : Each IsFull (map view l.schemas.items);
}
