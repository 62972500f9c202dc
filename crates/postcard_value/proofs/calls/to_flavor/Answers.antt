-- A flavor that had room for the whole encoding can be finalized after it was written.
use Rattle.postcard_ser.proofs.PartByPart.{wrote_closes}
use Rattle.postcard_value.proofs.calls.to_flavor.Goals as goal

pub returns-in-Err-clause-has_room : goal.returns-in-Err-clause-has_room
returns-in-Err-clause-has_room g c room =
    c.in-Err.ensures.closes (wrote_closes _ room c.in_ok-write_value.ensures)
