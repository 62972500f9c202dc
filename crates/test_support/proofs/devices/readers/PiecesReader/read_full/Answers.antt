-- Each turn moves one piece from the bytes left to the buffer, after the pieces before.
use Rattle.std.proofs.Common.{rules, ◌-◌, ◌++◌, length, take, sym, ap, ◌∙◌, append_assoc}
use Rattle.test_support.proofs.Filled.{front_filled}
use Rattle.test_support.proofs.devices.readers.PiecesReader.read_full.Goals as goal

pub loop-at-preserved : goal.loop-at-preserved
loop-at-preserved c =
    let at = c.loop-at.at in
    let buf = c.loop-at.buf in
    let n = c.give-count.result in
    let given = c.give-count.new.buf in
    let rest = c.give-count.new.self.bytes.now in
    let kept = c.loop-at.invariant in
    let moved = c.give-count.ensures in (
      search rules,
      search rules,
      kept.2 ∙ ap (λ l. take at buf ++ l) moved.moves ∙ sym (append_assoc (take at buf) (take n given) rest)
          ∙ ap (λ l. l ++ rest) (sym (front_filled at (length buf - at) n buf given kept.1 moved.fits)),
    )
