-- With room for no bytes, there is room for the byte at the end, and after it room to end.
use Rattle.std.proofs.Common.{rules}
use Rattle.example_types.specs.Trailer.{end_has_room}
use Rattle.example_types.proofs.trailer.TrailedFlavor.finalize.Goals as goal

pub returns : goal.returns
returns g c = record {
  gives = search rules;
  closes = λ r. c.finalize.ensures.closes (end_has_room g.F.Flavor.lawful c.args.self.inner c.try_push.new.self r c.in_ok-try_push.ensures.appends c.try_push.ensures.leaves);
}
