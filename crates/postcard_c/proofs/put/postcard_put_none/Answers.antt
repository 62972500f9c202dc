use Rattle.postcard_c.proofs.put.postcard_put_none.Goals as goal

pub returns : goal.returns
returns c = c.append.ensures
