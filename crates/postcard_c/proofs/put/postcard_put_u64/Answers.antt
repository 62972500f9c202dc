use Rattle.postcard_c.proofs.put.postcard_put_u64.Goals as goal

pub returns : goal.returns
returns c = c.put_number.ensures
