use Rattle.std.proofs.Common.{◌∙◌, length, ap, sym, arith}
use Rattle.std.proofs.lemmas.List.{length-take-le}
use Rattle.postcard_wire.proofs.Writing.{few_64}
use Rattle.postcard_c.proofs.Places.{number_written, ten_fit}
use Rattle.postcard_c.proofs.writer.write_number_at.Goals as goal

pub write_u64-requires : goal.write_u64-requires
write_u64-requires c =
    ten_fit c.args.number c.args.place c.args.buffer.now (omega (arith, c.ranges.number.fits)) c.requires

pub returns : goal.returns
returns c =
    let w = c.write_u64.ensures in
    let count = sym (length-take-le c.write_u64.result c.write_u64.new.out w.within) ∙ ap length w.digits in
    record {
      written = number_written c.args.place c.write_u64.result c.args.buffer.now c.write_u64.new.out _
          (omega (arith, c.requires)) w.within w.digits w.bytes_after_unchanged;
      count = count;
      few = omega (arith, count, few_64 c.args.number (omega (arith, c.ranges.number.fits)));
    }
