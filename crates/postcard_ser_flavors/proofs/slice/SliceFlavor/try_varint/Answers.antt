-- The digits follow what was held, and the bytes after them are unchanged.
use Rattle.std.proofs.Common.{length, ap, ◌∙◌, rules, arith}
use Rattle.std.proofs.lemmas.Grind.{common_steps}
use Rattle.postcard_ser_flavors.specs.Slice.{Written}
use Rattle.postcard_ser_flavors.proofs.InPlace.{fits_here, held_here, behind_here, free_here}
use Rattle.postcard_ser_flavors.proofs.slice.SliceFlavor.try_varint.Goals as goal

pub write_u64-count-requires : goal.write_u64-count-requires
write_u64-count-requires c = fits_here c.args.n c.self.inside.position c.lend-all.result.now (omega (arith, c.if-self-size.false, c.len_u64-size.ensures, ap length c.lend-all.ensures.value, c.self.invariant))

pub returns : goal.returns
returns c = record {
  pushed = record {
    appends = held_here c.self.inside.position c.write_u64-count.result c.lend-all.result.now c.write_u64-count.new.out _ _ _ (omega (arith, ap length c.lend-all.ensures.value, c.self.invariant)) c.write_u64-count.ensures.within
        (c.lend-all.ensures.value ∙ ap (λ (w : Written). w.buffer) c.self.view_is) (ap (λ (w : Written). w.count) c.self.view_is) c.write_u64-count.ensures.digits;
    has_room = search rules;
    refused = search rules;
    leaves = record {
      same_loan = search rules;
      same_length = search rules;
      grows = search rules;
      bytes_after_unchanged = behind_here c.self.inside.position c.write_u64-count.result c.lend-all.result.now c.write_u64-count.new.out _ _ _ (omega (arith, ap length c.lend-all.ensures.value, c.self.invariant)) c.write_u64-count.ensures.within
          (c.lend-all.ensures.value ∙ ap (λ (w : Written). w.buffer) c.self.view_is) (ap (λ (w : Written). w.count) c.self.view_is) c.write_u64-count.ensures.digits c.write_u64-count.ensures.bytes_after_unchanged;
    };
  };
  fits_iff = grind (arith, common_steps);
  rest_unchanged =
      free_here c.self.inside.position c.write_u64-count.result c.lend-all.result.now c.write_u64-count.new.out _ _ _ (omega (arith, ap length c.lend-all.ensures.value, c.self.invariant)) c.write_u64-count.ensures.within
      (c.lend-all.ensures.value ∙ ap (λ (w : Written). w.buffer) c.self.view_is) (ap (λ (w : Written). w.count) c.self.view_is) c.write_u64-count.ensures.digits c.write_u64-count.ensures.bytes_after_unchanged;
  refuses_by_buffer_full = search rules;
  unchanged = search rules;
}
