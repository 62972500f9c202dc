use Rattle.postcard_c.proofs.put.postcard_put_count.Goals as goal

pub returns : goal.returns
returns c = c.put_number.ensures
