-- The contents so far and the parts left are all parts. If there is a name for each part, the parts so far have the first names.
use Rattle.std.proofs.Common.{◌≡◌, ◌++◌, length, map, take}
use Rattle.postcard_described.specs.{contents, names_of, text_of}
use Rattle.postcard_described.proofs.make.with_names.Given as goal

abbrev pub invariant-loop-part : goal.invariant-loop-part
invariant-loop-part l =
    (contents l.fields.items ++ l.part-iterator.rest.items ≡ l.fn.parts.items)
    × (length l.names ≡ length l.fn.parts.items → names_of l.fields.items ≡ take (length l.fields.items) (map text_of l.names))
