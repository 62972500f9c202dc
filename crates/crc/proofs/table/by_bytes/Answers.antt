-- One byte more.
use Rattle.std.proofs.Common.{◌≡◌, ◌*◌, ◌+◌, [], ◌∷◌, ◌++◌, take, get_or, ap, subst, sym, ◌∙◌, append_assoc, append-nil, take_all}
use Rattle.std.proofs.lemmas.List.{take_more}
use Rattle.crc.specs.Algorithm.{parameters}
use Rattle.crc.specs.Register.{Holds}
use Rattle.crc.proofs.CrcLemmas.{holds_byte}
use Rattle.crc.proofs.table.by_bytes.Goals as goal

pub loop-byte-preserved : goal.loop-byte-preserved
loop-byte-preserved g c i m h =
    let n = 8 * g.W.Width.size in
    let a = record (parameters g.W.Width.number c.args.algorithm.now) { init = i } in
    let k = c.loop-byte.byte-index in
    let bs = c.args.bytes.now in
    let more : m ++ take k bs ++ get_or bs k 0 ∷ [] ≡ m ++ take (k + 1) bs = append_assoc m (take k bs) (get_or bs k 0 ∷ []) ∙ ap (λ y. m ++ y) (sym (take_more bs k 0 c.loop-byte-test.true)) in
    subst (λ y. Holds n a (g.W.Width.number c.step-register.result) y) more
    (holds_byte n a c.requires.valid.narrow (g.W.Width.number c.loop-byte.register) (g.W.Width.number c.step-register.result) (get_or bs k 0) (m ++ take k bs)
    (c.type_inv.bytes k).fits c.step-register.ensures.fits c.step-register.ensures.takes (c.loop-byte.invariant i m h))

pub loop-byte-init : goal.loop-byte-init
loop-byte-init g c i m h =
    let a = record (parameters g.W.Width.number c.args.algorithm.now) { init = i } in
    subst (λ y. Holds (8 * g.W.Width.size) a (g.W.Width.number c.args.register) y) (sym (append-nil m)) h

pub returns : goal.returns
returns g c i m h =
    let a = record (parameters g.W.Width.number c.args.algorithm.now) { init = i } in
    let bs = c.args.bytes.now in
    subst (λ y. Holds (8 * g.W.Width.size) a (g.W.Width.number c.loop-byte.register) (m ++ y)) (take_all c.loop-byte.byte-index bs c.loop-byte-test.false)
    (c.loop-byte.invariant i m h)
