-- The bytes after the one written are unchanged.
use Rattle.std.proofs.Common.{ℕ, List, ◌+◌, sym, ◌∙◌, arith, rules}
use Rattle.std.proofs.lemmas.Grind.{common_steps}
use Rattle.std.proofs.lemmas.List.{drop-drop, drop-set-lt}
use Rattle.postcard_ser_flavors.proofs.slice.SliceFlavor.try_push.Goals as goal

pub returns : goal.returns
returns c = record {
  pushed = record {
    appends = grind (arith, common_steps);
    has_room = search rules;
    refused = search rules;
    leaves = grind (arith, common_steps);
  };
  fits_iff = grind (arith, common_steps);
  rest_unchanged =
      let xs : List ℕ = c.self.inside.memory.items in let place : ℕ = c.self.inside.position in
      rw (← c.self.view_is) (drop-set-lt (place + 1) xs place c.args.byte (omega arith) ∙ sym (drop-drop 1 place xs));
  refuses_by_buffer_full = search rules;
  unchanged = search rules;
}
