-- Three cases: a number or an infinity, the usual NaN, and a NaN with other bits. The text of each denotes the bits.
use Rattle.std.proofs.Common.{◌≡◌, ◌++◌, ◌∷◌, [], false, Some, codes, ap, ◌∙◌, arith}
use Rattle.std.proofs.lemmas.Grind.{common_steps}
use Rattle.std.specs.Fmt.{digits}
use Rattle.std.specs.Float.{binary32}
use Rattle.std.specs.Float.Ieee.{is_nan, of_bits}
use Rattle.postcard_value_text.specs.Floats.{AreNan}
use Rattle.postcard_value_text.proofs.FloatTexts.{number_spells, usual_32, nan_spells}
use Rattle.postcard_value_text.proofs.float.show_f32.Goals as goal

pub returns-then-not-is_nan : goal.returns-then-not-is_nan
returns-then-not-is_nan g c =
    let bits = c.args.bits in
    let x = c.f32_from_bits_with_nan-x.ensures in
    let text = c.format.result.now in
    let other : is_nan (of_bits binary32 bits) ≡ false = grind (arith, common_steps) in
    (text, number_spells binary32 bits text (omega arith) other (c.format.ensures.parses ∙ ap Some x), c.write_str.ensures.writes)

pub returns-then-bits-eq2143289344 : goal.returns-then-bits-eq2143289344
returns-then-bits-eq2143289344 g c = (codes "nan", usual_32 c.args.bits (omega arith), c.write_str-then-bits-eq2143289344.ensures.writes)

pub returns : goal.returns
returns g c =
    let bits = c.args.bits in
    let are : AreNan binary32 bits = (omega arith, grind (arith, common_steps)) in
    (codes "nan(0x" ++ (digits 16 false bits ++ 41 ∷ []), nan_spells binary32 bits are (omega arith), rw c.in_radix.ensures at c.write.ensures.writes)
