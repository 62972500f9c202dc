-- The inner flavor has room for the bytes.
use Rattle.std.proofs.Common.{rules}
use Rattle.example_types.specs.Trailer.{bytes_have_room}
use Rattle.example_types.proofs.trailer.TrailedFlavor.try_extend.Goals as goal

pub returns : goal.returns
returns g c = record {
  appends = search rules;
  has_room = λ r. c.try_extend.ensures.has_room (bytes_have_room g.F.Flavor.lawful c.args.self.now.inner c.args.bytes.now r);
  refused = search rules;
  leaves = search rules;
}
