-- The paths so far, and those in the parts that are left, are the paths before and those in all parts. The steps to the type are as before.
use Rattle.std.proofs.Common.{◌≡◌, ◌++◌, drop, map}
use Rattle.postcard_schema.specs.Paths.{plain_path, plain_step}
use Rattle.postcard_schema_size.specs.Endless.{after, endless, in_named, in_parts}
use Rattle.postcard_schema_size.proofs.endless.+endless.Given as goal

abbrev pub invariant-push_in_parts-loop-number : goal.invariant-push_in_parts-loop-number
invariant-push_in_parts-loop-number l = record {
  back : l.here.items ≡ l.fn.here.items;
  whole : map plain_path l.paths.items ++ after (map plain_step l.fn.here.items) (in_parts l.number (map endless (drop l.number l.part-items)))
      ≡ map plain_path l.fn.paths.items ++ after (map plain_step l.fn.here.items) (in_parts 0 (map endless l.part-items));
}

abbrev pub invariant-push_in_named-loop-part : goal.invariant-push_in_named-loop-part
invariant-push_in_named-loop-part l = record {
  back : l.here.items ≡ l.fn.here.items;
  whole : map plain_path l.paths.items ++ after (map plain_step l.fn.here.items) (in_named endless (drop l.part-index l.part-items))
      ≡ map plain_path l.fn.paths.items ++ after (map plain_step l.fn.here.items) (in_named endless l.part-items);
}
