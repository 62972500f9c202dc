use Rattle.std.proofs.Common.{subst}
use Rattle.postcard_shape.specs.Base256.{little}
use Rattle.postcard_c.specs.Writing.{Puts}
use Rattle.postcard_c.proofs.put_fixed.postcard_put_u128_le.Goals as goal

pub returns : goal.returns
returns c =
    subst (λ n. Puts (little.spell 16 n) c.args.writer.now c.put_wide_le.new.writer c.put_wide_le.result)
    c.joined.ensures c.put_wide_le.ensures
