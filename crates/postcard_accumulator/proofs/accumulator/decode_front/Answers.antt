-- The data lies among the frame's bytes, which are the front of the buffer.
use Rattle.std.proofs.Common.{◌≡◌, ℕ, ◌<◌, List, ◌++◌, length, take, drop, arith, ap, sym, subst}
use Rattle.std.proofs.Common.{◌∙◌, length-append}
use Rattle.std.specs.Prelude.{Result, Ok, Err, IfOk}
use Rattle.std.proofs.lemmas.List.{take-append-le, drop-append-le, length-drop}
use Rattle.postcard_wire.specs.declared.error.Error.{Error}
use Rattle.postcard_cobs.specs.Groups.{Groups}
use Rattle.postcard_accumulator.proofs.accumulator.decode_front.Goals as goal

placed : (frame front rest : List ℕ) (r : Result ℕ Error) → IfOk r (λ n. n < length front)
    → IfOk r (λ n. Groups frame (take n (drop 1 front))) → IfOk r (λ n.
    (n < length (front ++ rest)) × Groups frame (take n (drop 1 (front ++ rest))))
placed frame front rest (Ok n) within decodes =
    let same : take n (drop 1 (front ++ rest)) ≡ take n (drop 1 front) =
    ap (take n) (drop-append-le 1 front rest (omega (arith, within)))
    ∙ take-append-le n (drop 1 front) rest (omega (arith, within, length-drop 1 front)) in
    (omega (arith, within, length-append front rest), subst (Groups frame) (sym same) decodes)
placed frame front rest (Err e) within decodes = tt

pub returns-clause-decodes : goal.returns-clause-decodes
returns-clause-decodes c =
    placed _ _ _ _ c.decode_behind_code.ensures.within c.decode_behind_code.ensures.gives
