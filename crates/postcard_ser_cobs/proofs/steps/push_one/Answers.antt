-- What is appended is held after what was held, and the other free bytes stay free, by the laws of
-- each storage.
use Rattle.std.proofs.Common.{[], ◌∷◌}
use Rattle.postcard_ser_cobs.proofs.steps.push_one.Goals as goal

pub returns-in-Ok-clause-keeps_free : goal.returns-in-Ok-clause-keeps_free
returns-in-Ok-clause-keeps_free g c n h =
    g.met.B.Storage.storage_lawful.free_rest _ _ (c.args.byte ∷ []) n h c.in-Ok.ensures.appends c.in-Ok.ensures.leaves

pub returns-in-Ok-clause-appends : goal.returns-in-Ok-clause-appends
returns-in-Ok-clause-appends g c = g.met.B.Storage.storage_lawful.held_more _ _ _ c.in-Ok.ensures.appends
