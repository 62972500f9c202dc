use Rattle.postcard_c.proofs.get.postcard_get_variant.Goals as goal

pub returns : goal.returns
returns c = c.postcard_get_u32.ensures
