-- A flavor that had room for the whole encoding can end once it has taken it.
use Rattle.postcard_ser.proofs.PartByPart.{wrote_closes}
use Rattle.postcard.proofs.with_flavor.serialize_with_flavor.Goals as goal

pub returns-in-Err-clause-own_error : goal.returns-in-Err-clause-own_error
returns-in-Err-clause-own_error g c room =
    let closed = c.in-Err.ensures.closes (wrote_closes _ room c.in_ok-serialize.ensures.wrote) in
    absurd (cc)

pub returns-in-Err-clause-has_room : goal.returns-in-Err-clause-has_room
returns-in-Err-clause-has_room g c willing room =
    c.in-Err.ensures.closes (wrote_closes _ room c.in_ok-serialize.ensures.wrote)
