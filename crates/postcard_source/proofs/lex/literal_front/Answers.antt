use Rattle.postcard_source.proofs.Fronts.{quoted_front, front_taken}
use Rattle.postcard_source.proofs.lex.literal_front.Goals as goal

pub returns-clause-read : goal.returns-clause-read
returns-clause-read c =
    let (front, is_front) = quoted_front c.args.quote c.args.text.now c.args.inner.now c.in-Some.rest.now c.requires c.in-Some.ensures in
    let taken = front_taken c.args.text.now front c.in-Some.rest.now is_front in
    (c.args.inner.now, c.requires, c.in-Some.ensures, (cc))
