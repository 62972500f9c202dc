-- The slice that is written holds the vector's elements.
use Rattle.postcard_ser.proofs.values.fixed.ArrayVecSerialize.serialize.Goals as goal

pub returns-clause-wrote : goal.returns-clause-wrote
returns-clause-wrote g c = rw c.as_slice.ensures.value at c.serialize.ensures.wrote
