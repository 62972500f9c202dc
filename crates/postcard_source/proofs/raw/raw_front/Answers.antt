use Rattle.postcard_source.proofs.Fronts.{front_taken}
use Rattle.postcard_source.proofs.RawFronts.{raw_front_of}
use Rattle.postcard_source.proofs.raw.raw_front.Goals as goal

pub returns-clause-read : goal.returns-clause-read
returns-clause-read c =
    let (front, is_front) = raw_front_of c.in-Some.hashes.now c.args.text.now c.in-Some.inner.now c.in-Some-after_raw.rest.now c.in-Some.ensures.found c.in-Some-after_raw.ensures in
    let taken = front_taken c.args.text.now front c.in-Some-after_raw.rest.now is_front in
    (c.in-Some.hashes.now, c.in-Some.inner.now, c.in-Some.ensures.found, c.in-Some-after_raw.ensures, (cc))
