-- The digits of the bytes so far are written.
use Rattle.std.proofs.Common.{map, take, Ok}
use Rattle.std.specs.Fmt.{WritesOnOk}
use Rattle.postcard_value_text.specs.{Byte, hexadecimal, trees}
use Rattle.postcard_value_text.proofs.leaves.show_bytes.Given as goal

abbrev pub invariant-loop-byte : goal.invariant-loop-byte
invariant-loop-byte g l = WritesOnOk g.W.Write.write_str_gives l.initial.f (Ok tt) (hexadecimal (trees (map Byte (take l.byte-index l.byte-items)))) l.f
