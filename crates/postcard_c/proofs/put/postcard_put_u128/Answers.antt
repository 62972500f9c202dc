use Rattle.std.proofs.Common.{subst}
use Rattle.postcard_wire.specs.Number.{digits}
use Rattle.postcard_c.specs.Writing.{Puts}
use Rattle.postcard_c.proofs.put.postcard_put_u128.Goals as goal

pub returns : goal.returns
returns c =
    subst (λ n. Puts (digits n) c.args.writer.now c.put_wide.new.writer c.put_wide.result) c.joined.ensures c.put_wide.ensures
