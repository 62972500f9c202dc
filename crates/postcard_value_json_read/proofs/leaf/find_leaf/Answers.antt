-- The clauses for integers, floats and numbers at full width are those of the functions `find_..` for them.
use Rattle.postcard_value_json_read.proofs.leaf.find_leaf.Goals as goal

pub returns-in-Integer : goal.returns-in-Integer
returns-in-Integer c = rw c.in-Integer.is c.find_integer.ensures

pub returns-in-Float : goal.returns-in-Float
returns-in-Float c = rw c.in-Float.is c.find_float.ensures

pub returns-in-Fixed : goal.returns-in-Fixed
returns-in-Fixed c = rw c.in-Fixed.is c.find_fixed.ensures
