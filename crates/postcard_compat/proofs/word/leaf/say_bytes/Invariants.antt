-- The words so far, and those of the bytes left, are the words of all.
use Rattle.std.proofs.Common.{drop, map}
use Rattle.postcard_wire.specs.Tree.{Byte, trees}
use Rattle.postcard_schema.specs.declared.leaf.Integer.TheVariants.{U8}
use Rattle.postcard_compat.specs.Said.{each_said, integer_said}
use Rattle.postcard_compat.proofs.Telling.{Going}
use Rattle.postcard_compat.proofs.word.leaf.say_bytes.Given as goal

abbrev pub invariant-loop-byte : goal.invariant-loop-byte
invariant-loop-byte l =
    Going l.initial.words.items l.words.items (each_said (integer_said U8) (trees (map Byte (drop l.byte-index l.byte-items))))
    (each_said (integer_said U8) (trees (map Byte l.byte-items)))
