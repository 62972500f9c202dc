-- The parts so far have the first names, and as many names as parts are left.
use Rattle.std.proofs.Common.{◌≡◌, ◌++◌, length, map}
use Rattle.postcard_schema.specs.Views.{named, view}
use Rattle.postcard_schema_message.specs.Making.{paired}
use Rattle.postcard_schema_message.specs.Nodes.{texts}
use Rattle.postcard_schema_message.proofs.root.with_names.Given as goal

abbrev pub invariant-loop-content : goal.invariant-loop-content
invariant-loop-content l = record {
  long : length l.content-iterator.rest.items ≡ length l.left.rest.items;
  same : map (named view) l.fields.items ++ paired (texts l.left.rest.items) (map view l.content-iterator.rest.items)
      ≡ paired (texts l.fn.names.items) (map view l.fn.parts.items);
}
