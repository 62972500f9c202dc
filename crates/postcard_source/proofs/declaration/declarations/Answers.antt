use Rattle.postcard_source.proofs.Declared.{declared_more}
use Rattle.postcard_source.proofs.declaration.declarations.Goals as goal

pub loop-at-preserved : goal.loop-at-preserved
loop-at-preserved c = declared_more c.args.tokens.now c.loop-at.at c.loop-at.known.items c.read_item.new.known.items c.loop-at.invariant c.in_ok-read_item.ensures.read
