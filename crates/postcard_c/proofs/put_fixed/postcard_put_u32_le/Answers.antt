use Rattle.std.proofs.Common.{[], ◌++◌, subst}
use Rattle.postcard_c.specs.Writing.{Puts}
use Rattle.postcard_c.proofs.put_fixed.postcard_put_u32_le.Goals as goal

pub returns : goal.returns
returns c =
    subst (λ xs. Puts (xs ++ []) c.args.writer.now c.append.new.writer c.append.result) c.encode_le.ensures.bytes c.append.ensures
