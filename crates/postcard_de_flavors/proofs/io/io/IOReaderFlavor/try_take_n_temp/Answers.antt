use Rattle.std.proofs.Common.{◌≡◌, ◌≤◌, ◌<◌, length, refl, arith, length-take}
use Rattle.std.specs.Io.KnownBytes.{Consumes}
use Rattle.postcard_de_flavors.proofs.Rear.{rear_written}
use Rattle.postcard_de_flavors.proofs.AtLeastLemmas.{at_least_after}
use Rattle.postcard_de_flavors.proofs.io.io.IOReaderFlavor.try_take_n_temp.Goals as goal

pub returns : goal.returns
returns g c =
    let old = g.T.Read.remaining c.args.self.now.reader in
    let new = g.T.Read.remaining c.fill.new.reader in
    let did = c.in_ok-fill.ensures in
    let room : c.args.ct ≤ length c.args.self.now.scratch = did.room in
    let kept : length c.fill.new.self ≡ length c.args.self.now.scratch = did.length in
    let count : length c.front.result.now ≡ c.args.ct = rw c.front.ensures (omega (arith, length-take c.args.ct c.fill.new.self, kept, room)) in
    let took : Consumes old new c.front.result.now = rw c.front.ensures did.bytes in
    let not_short : length c.args.self.now.scratch < c.args.ct → ⊥ = λ short. omega (arith, room, short) in (
      (
        refl,
        (λ _. tt),
        (
          (
            record {
              drops = took;
              scratch = rw count (rear_written c.args.ct c.args.self.now.scratch c.fill.new.self kept did.rest_unchanged);
              keeps = λ n able. (did.stays_steady able.0, at_least_after old new c.front.result.now n took able.1, omega (arith, able.2, count, kept));
            },
            (did.stays_steady, omega (arith, kept)),
          ),
          (kept, did.rest_unchanged, λ short. absurd (not_short short)),
        ),
      ),
      record { length = count; gives = tt; accepts = λ _. refl; refuses_by_unexpected_end = tt; short_scratch_refused = λ short. absurd (not_short short) },
    )
