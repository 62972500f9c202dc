-- The text so far has the characters before the loop's place, escaped.
use Rattle.std.proofs.Common.{◌≡◌, flat_map, string_bytes}
use Rattle.postcard_value_json.specs.Escaped.{escaped_char}
use Rattle.postcard_value_json.proofs.print.with_escapes.Given as goal

abbrev pub invariant-loop-c : goal.invariant-loop-c
invariant-loop-c l = string_bytes l.shown ≡ flat_map escaped_char l.yielded
