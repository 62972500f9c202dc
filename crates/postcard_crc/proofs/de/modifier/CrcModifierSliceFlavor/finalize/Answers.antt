-- The remaining bytes begin with the checksum of the bytes taken, and the result is the bytes after it. Otherwise the call fails.
use Rattle.std.proofs.Common.{List, ℕ, subst}
use Rattle.postcard_crc.specs.Source.{Finishes}
use Rattle.postcard_crc.proofs.Ending.{finishes}
use Rattle.postcard_crc.proofs.de.modifier.CrcModifierSliceFlavor.finalize.Goals as goal

pub returns : goal.returns
returns g c =
    let k = g.W.Width.size in
    let d = c.args.self.digest in
    let r = c.after_checksum.result in
    let h = c.after_checksum.ensures in
    subst (λ (left : List ℕ). Finishes k left d r) c.in_ok-rest.ensures
    (finishes k c.in_ok-rest.rest.now d (g.W.Width.number c.finalize-2.result) r c.finalize-2.ensures h.gives h.accepts h.short h.long)
