-- One byte more.
use Rattle.std.proofs.Common.{◌≡◌, ◌+◌, [], ◌∷◌, ◌++◌, take, get_or, ap, subst, sym, ◌∙◌, append_assoc, append-nil, take_all, bit_xor, true}
use Rattle.std.proofs.lemmas.List.{take_more}
use Rattle.crc.specs.Register.{Holds, rounds}
use Rattle.postcard_c.proofs.Checksums.{byte_taken}
use Rattle.postcard_c.proofs.checksum.taken.Goals as goal

pub loop-byte-init : goal.loop-byte-init
loop-byte-init c a y m is h = subst (λ z. Holds 32 a c.args.register z) (sym (append-nil m)) h

pub loop-byte-preserved : goal.loop-byte-preserved
loop-byte-preserved c a y m is h =
    let k = c.loop-byte.byte-index in
    let bs = c.args.bytes.now in
    let more : m ++ take k bs ++ get_or bs k 0 ∷ [] ≡ m ++ take (k + 1) bs =
    append_assoc m (take k bs) (get_or bs k 0 ∷ [])
    ∙ ap (λ z. m ++ z) (sym (take_more bs k 0 c.loop-byte-test.true)) in
    subst (λ z. Holds 32 a z (m ++ take (k + 1) bs)) (sym (c.eight-register.ensures ∙ ap (λ b. rounds true 32 c.args.generator 8 (bit_xor c.loop-byte.register b)) c.from.ensures))
    (subst (λ z. Holds 32 a (rounds true 32 c.args.generator 8 (bit_xor c.loop-byte.register (get_or bs k 0))) z) more
    (byte_taken a c.args.generator y c.loop-byte.register (get_or bs k 0) (m ++ take k bs) is (c.type_inv.bytes k).fits
    (c.loop-byte.invariant a y m is h)))

pub returns : goal.returns
returns c a y m is h =
    subst (λ z. Holds 32 a c.loop-byte.register (m ++ z))
    (take_all c.loop-byte.byte-index c.args.bytes.now c.loop-byte-test.false)
    (c.loop-byte.invariant a y m is h)
