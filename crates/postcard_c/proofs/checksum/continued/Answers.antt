-- The register is opened, takes the bytes, and is closed.
use Rattle.std.proofs.Common.{◌++◌}
use Rattle.postcard_c.proofs.Checksums.{opened, closed}
use Rattle.postcard_c.proofs.checksum.continued.Goals as goal

pub returns : goal.returns
returns c a m is h =
    closed a c.args.generator c.args.added c.taken.result (m ++ c.args.bytes.now) is
    (c.taken.ensures a c.args.added m is (opened a c.args.generator c.args.added c.args.so_far m is h))
