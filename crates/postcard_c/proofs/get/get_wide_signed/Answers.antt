use Rattle.std.proofs.Common.{◌∙◌, ℕ, ap, arith}
use Rattle.std.proofs.lemmas.Int.{of_z-to_z, to_z-of_z}
use Rattle.std.specs.Int.{w128, cast_unsigned, cast_signed}
use Rattle.postcard_c.proofs.Reading.{gets_as, signed_fits}
use Rattle.postcard_c.proofs.get.get_wide_signed.Goals as goal

-- The bits of the number that has these bits.
abbrev again : ℕ → ℕ
again n = cast_unsigned w128 (cast_signed w128 n)

pub returns : goal.returns
returns c =
    let same = of_z-to_z w128 c.args.before (omega (arith, c.ranges.before.fits)) in
    rw c.cast_unsigned.ensures
    (gets_as _ _ _ _ (λ z. again (cast_unsigned w128 z)) (λ n. cast_signed w128 n) _ _ _ _ _ _
    (λ t r v. let fits = signed_fits t _ r v in
    ap (λ z. cast_signed w128 (cast_unsigned w128 z)) (to_z-of_z w128 _ fits) ∙ to_z-of_z w128 _ fits)
    (ap (λ z. again (again (cast_unsigned w128 z))) c.cast_signed-value.ensures
    ∙ ap (λ n. again (again n)) same ∙ ap again same ∙ same)
    c.get_signed-status.ensures)
