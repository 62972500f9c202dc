-- The names so far are those of the fields or variants so far.
use Rattle.std.proofs.Common.{◌≡◌, map, take}
use Rattle.postcard_schema_message.specs.Nodes.{name_text, texts}
use Rattle.postcard_schema_message.proofs.nodes.names_of.Given as goal

abbrev pub invariant-loop-part : goal.invariant-loop-part
invariant-loop-part l = texts l.names.items ≡ map name_text (take l.part-index l.part-items)
