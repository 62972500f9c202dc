-- The piece that was read is taken, and `flush` keeps its lines. If it is empty, the input is at its end.
use Rattle.std.proofs.Common.{◌≡◌, arith, take}
use Rattle.std.proofs.lemmas.Bool.{ltb-true, ltb-false}
use Rattle.std.proofs.lemmas.List.{length-take-le}
use Rattle.pcard_message.proofs.StreamLemmas.{continues_kept}
use Rattle.pcard_message.proofs.stream.Stream.read.Goals as goal

pub returns-clause-read : goal.returns-clause-read
returns-clause-read g c =
    let long = length-take-le c.in-Ok.count c.read_some.new.buf c.in-Ok.ensures.bound.0 in
    record {
      piece = take c.in-Ok.count c.read_some.new.buf;
      reader = c.in-Ok.ensures.bytes.0;
      lines = continues_kept _ _ _ _ _ _ _ c.in_ok-take.ensures.printed c.in_ok-flush.ensures.bytes;
      some = λ e. (let h = ltb-true 0 c.in-Ok.count e in omega arith);
      at_end = λ e.
          (let h = ltb-false 0 c.in-Ok.count e in
          let none : c.in-Ok.count ≡ 0 = omega arith in
          c.in-Ok.ensures.bytes.1 none (omega arith));
    }
