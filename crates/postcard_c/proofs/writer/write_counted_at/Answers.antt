use Rattle.std.proofs.Common.{◌+◌, length-append, subst, arith}
use Rattle.postcard_wire.specs.Number.{digits}
use Rattle.postcard_c.specs.Writing.{WrittenAt}
use Rattle.postcard_c.proofs.Places.{both_written}
use Rattle.postcard_c.proofs.writer.write_counted_at.Goals as goal

pub returns-clause-written : goal.returns-clause-written
returns-clause-written c =
    let n = c.write_number_at-varint.ensures in
    let d = digits c.args.number in
    both_written c.args.place d c.args.bytes.now c.args.buffer.now c.write_number_at-varint.new.buffer
    c.copy_at.new.buffer
    (omega (arith, length-append d c.args.bytes.now, n.count, n.few, c.requires))
    n.written
    (subst (λ k. WrittenAt (c.args.place + k) c.args.bytes.now c.write_number_at-varint.new.buffer
    c.copy_at.new.buffer) n.count c.copy_at.ensures)
