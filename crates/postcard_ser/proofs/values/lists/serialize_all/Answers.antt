-- One piece more is written, and then the elements that are left. Or it is refused, and so is the list.
use Rattle.std.proofs.lemmas.List.{take_rest}
use Rattle.postcard_ser.proofs.Pieces.{written_none, written_more, written_stop, written_end, written_some, written_refused, written_whole, written_fits, written_whole_fits, block_shortens, some_shorten}
use Rattle.postcard_ser.proofs.PartByPart.{wrote_err}
use Rattle.postcard_ser.proofs.values.lists.serialize_all.Goals as goal

pub loop-bytes-init : goal.loop-bytes-init
loop-bytes-init g c = written_none c.args.items.now c.args.serializer.now.output

pub returns-in-Whole-clause-wrote : goal.returns-in-Whole-clause-wrote
returns-in-Whole-clause-wrote g c = written_whole c.loop-bytes.invariant c.in-Whole.ensures.gives c.extend.ensures

pub returns-in-Whole-clause-fits : goal.returns-in-Whole-clause-fits
returns-in-Whole-clause-fits g c = written_whole_fits _ c.loop-bytes.invariant c.in-Whole.ensures.gives

pub returns-in_err-extend-in-Block-clause-wrote : goal.returns-in_err-extend-in-Block-clause-wrote
returns-in_err-extend-in-Block-clause-wrote g c =
    wrote_err _ c.from_residual.ensures.1 (written_stop c.loop-bytes.invariant c.in-Block.ensures.gives c.in_err-extend-in-Block.ensures)

pub loop-bytes-smaller-in-Block : goal.loop-bytes-smaller-in-Block
loop-bytes-smaller-in-Block g c = block_shortens c.in-Block.ensures.gives (take_rest c.loop-bytes.rest.now c.in-Block.count)

pub loop-bytes-preserved-in-Block : goal.loop-bytes-preserved-in-Block
loop-bytes-preserved-in-Block g c =
    written_more c.loop-bytes.invariant c.in-Block.ensures.gives (take_rest c.loop-bytes.rest.now c.in-Block.count) c.in_ok-extend-in-Block.ensures

pub returns-in_err-extend-in-Row-clause-wrote : goal.returns-in_err-extend-in-Row-clause-wrote
returns-in_err-extend-in-Row-clause-wrote g c =
    wrote_err _ c.from_residual-in_err-extend-in-Row.ensures.1 (written_stop c.loop-bytes.invariant c.in-Row.ensures.gives c.in_err-extend-in-Row.ensures)

pub loop-bytes-smaller-in-Row : goal.loop-bytes-smaller-in-Row
loop-bytes-smaller-in-Row g c = block_shortens c.in-Row.ensures.gives (take_rest c.loop-bytes.rest.now c.in-Row.row_count)

pub loop-bytes-preserved-in-Row : goal.loop-bytes-preserved-in-Row
loop-bytes-preserved-in-Row g c =
    written_more c.loop-bytes.invariant c.in-Row.ensures.gives (take_rest c.loop-bytes.rest.now c.in-Row.row_count) c.in_ok-extend-in-Row.ensures

pub returns-in-OneByOne-clause-wrote : goal.returns-in-OneByOne-clause-wrote
returns-in-OneByOne-clause-wrote g c = written_end c.loop-bytes.invariant c.serialize_each-in-OneByOne.ensures.wrote

pub returns-in-OneByOne-clause-fits : goal.returns-in-OneByOne-clause-fits
returns-in-OneByOne-clause-fits g c = written_fits _ c.loop-bytes.invariant c.serialize_each-in-OneByOne.ensures.fits

pub returns-in_err-serialize_each-in-SomeOneByOne-clause-wrote : goal.returns-in_err-serialize_each-in-SomeOneByOne-clause-wrote
returns-in_err-serialize_each-in-SomeOneByOne-clause-wrote g c =
    wrote_err _ c.from_residual-in_err-serialize_each-in-SomeOneByOne.ensures.1
    (written_refused c.in-SomeOneByOne.some c.loop-bytes.invariant c.in_err-serialize_each-in-SomeOneByOne.ensures.wrote)

pub loop-bytes-smaller : goal.loop-bytes-smaller
loop-bytes-smaller g c =
    let some = c.in-SomeOneByOne.ensures.gives in
    some_shorten c.loop-bytes.rest.now _ c.in-SomeOneByOne.some some.0 some.1 (take_rest c.loop-bytes.rest.now c.in-SomeOneByOne.some)

pub loop-bytes-preserved : goal.loop-bytes-preserved
loop-bytes-preserved g c =
    let some = c.in-SomeOneByOne.ensures.gives in
    written_some _ c.in-SomeOneByOne.some c.loop-bytes.invariant some.0 some.1 (take_rest c.loop-bytes.rest.now c.in-SomeOneByOne.some)
    c.in_ok-serialize_each-in-SomeOneByOne.ensures.wrote c.in_ok-serialize_each-in-SomeOneByOne.ensures.fits
