-- The clauses are those of `from_member` for a name, and of `from_item` for a number.
use Rattle.postcard_value_json_read.proofs.place.from_step.Goals as goal

pub returns-in-Name-clause-part : goal.returns-in-Name-clause-part
returns-in-Name-clause-part c = rw c.in-Name.is (rw c.as_bytes.ensures.value at c.from_member.ensures.member)

pub returns-in-Part-clause-part : goal.returns-in-Part-clause-part
returns-in-Part-clause-part c = rw c.in-Part.is c.from_item.ensures.item

pub returns-in-Element-clause-part : goal.returns-in-Element-clause-part
returns-in-Element-clause-part c = rw c.in-Element.is c.from_item-in-Element.ensures.item
