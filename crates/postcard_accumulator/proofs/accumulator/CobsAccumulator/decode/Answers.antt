use Rattle.std.proofs.Common.{◌≡◌, ◌+◌, ◌-◌, refl, arith}
use Rattle.std.proofs.lemmas.Result.{err_from_is_err_and}
use Rattle.postcard_accumulator.proofs.Holding.{not_skipping}
use Rattle.postcard_accumulator.proofs.accumulator.CobsAccumulator.decode.Goals as goal

pub returns-in_err-n : goal.returns-in_err-n
returns-in_err-n g c =
    let s = not_skipping _ _ _ c.self.view_is c.requires in
    let p = err_from_is_err_and c.from_residual.result c.from_residual.ensures.1 in (
      (refl, (λ x. tt), rw s.0 refl),
      record {
        decodes = rw p.1 tt;
        no_groups = rw (p.1, ← s.1) c.in_err-n.ensures.no_groups;
        held = tt;
      },
    )

pub returns : goal.returns
returns g c =
    let s = not_skipping _ _ _ c.self.view_is c.requires in
    let same : c.in_ok-n.n + 1 - 1 ≡ c.in_ok-n.n = omega arith in (
      (refl, (λ x. tt), rw s.0 refl),
      record {
        decodes = rw (← s.1, same) c.in_ok-n.ensures.decodes.1;
        no_groups = tt;
        held = tt;
      },
    )
