-- If HEX isn't `-`, its digits are HEX itself, so a failure to read them is a failure of HEX.
use Rattle.std.proofs.Common.{◌≡◌, codes, arith, refl}
use Rattle.std.proofs.lemmas.Grind.{common_steps}
use Rattle.pcard_bytes.proofs.InputLemmas.{digits_fail}
use Rattle.pcard_bytes.proofs.hexadecimal.read_hex.Goals as goal

pub returns-then-ne-clause-refused : goal.returns-then-ne-clause-refused
returns-then-ne-clause-refused g c = digits_fail _ _ _ _ _ _ c.read.result
    (record { own = λ _. refl; input = λ (is : c.args.text.now ≡ codes "-"). let never : ⊥ = grind (arith, common_steps) in absurd never })
    (rw c.as_bytes.ensures.value at c.read.ensures.refused)
