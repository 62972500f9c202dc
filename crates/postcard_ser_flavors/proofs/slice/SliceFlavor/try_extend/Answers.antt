-- The bytes after those written are unchanged.
use Rattle.std.proofs.Common.{arith, rules}
use Rattle.std.proofs.lemmas.Grind.{common_steps}
use Rattle.std.proofs.lemmas.Slice.{overwrites}
use Rattle.postcard_ser_flavors.proofs.slice.SliceFlavor.try_extend.Goals as goal

pub returns : goal.returns
returns c = record {
  pushed = record {
    appends = grind (arith, common_steps);
    has_room = search rules;
    refused = search rules;
    leaves = record {
      same_loan = search rules;
      same_length = search rules;
      grows = search rules;
      bytes_after_unchanged = search (rules, overwrites);
    };
  };
  fits_iff = grind (arith, common_steps);
  rest_unchanged = search (rules, overwrites);
  refuses_by_buffer_full = search rules;
  unchanged = search rules;
}
