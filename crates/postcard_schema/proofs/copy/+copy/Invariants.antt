-- The copies so far have the types and names of the parts so far.
use Rattle.std.proofs.Common.{◌≡◌, map, take}
use Rattle.postcard_schema.specs.Meaning.{type_of}
use Rattle.postcard_schema.specs.Views.{named, view}
use Rattle.postcard_schema.proofs.copy.+copy.Given as goal

abbrev pub invariant-all-loop-part : goal.invariant-all-loop-part
invariant-all-loop-part l = record {
  same : map view l.copies.items ≡ map view (take l.part-index l.part-items);
  same_type : map type_of l.copies.items ≡ map type_of (take l.part-index l.part-items);
}

abbrev pub invariant-all_named-loop-part : goal.invariant-all_named-loop-part
invariant-all_named-loop-part l = record {
  same : map (named view) l.copies.items ≡ map (named view) (take l.part-index l.part-items);
  same_type : map (λ n. type_of n.content) l.copies.items ≡ map (λ n. type_of n.content) (take l.part-index l.part-items);
}
