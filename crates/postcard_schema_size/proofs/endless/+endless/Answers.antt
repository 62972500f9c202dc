-- The functions under `endless_parts`, by the kind of type. The paths of a whole come from those of its parts, one after the other.
use Rattle.std.proofs.Common.{◌≡◌, ◌<◌, refl, ◌+◌, [], ◌∷◌, ◌++◌, ap, ◌∙◌, arith, length, drop, map}
use Rattle.std.specs.Prelude.{string_bytes}
use Rattle.std.proofs.lemmas.List.{map_push}
use Rattle.postcard_schema.specs.Paths.{plain_path, plain_step, at_name, at_part, at_each}
use Rattle.postcard_schema_size.specs.Endless.{after, endless, in_named, in_parts, is_endless_leaf}
use Rattle.postcard_schema_size.proofs.Rows.{cut}
use Rattle.postcard_schema_size.proofs.EndlessLemmas.{endless_leaf, endless_option, endless_seq, endless_map, endless_array, endless_tuple, endless_struct, endless_enum}
use Rattle.postcard_schema_size.proofs.EndlessLemmas.{after_whole, after_here, after_step, after_entries, some_elements, moved, next}
use Rattle.postcard_schema_size.proofs.endless.+endless.Goals as goal

pub push_endless-returns-in-Leaf-clause-added : goal.push_endless-returns-in-Leaf-clause-added
push_endless-returns-in-Leaf-clause-added t c =
    rw (c.in-Leaf.is, endless_leaf, after_whole (map plain_step c.args.here.now.items) (is_endless_leaf c.in-Leaf.leaf)) c.push_leaf.ensures.added

pub push_endless-returns-in-Option-clause-added : goal.push_endless-returns-in-Option-clause-added
push_endless-returns-in-Option-clause-added t c = rw (c.in-Option.is, endless_option, ← c.deref.ensures) c.push_endless.ensures.added

pub push_endless-returns-in-Tuple-clause-added : goal.push_endless-returns-in-Tuple-clause-added
push_endless-returns-in-Tuple-clause-added t c = rw (c.in-Tuple.is, endless_tuple) c.push_in_parts.ensures.added

pub push_endless-returns-in-Struct-clause-added : goal.push_endless-returns-in-Struct-clause-added
push_endless-returns-in-Struct-clause-added t c = rw (c.in-Struct.is, endless_struct) c.push_in_named.ensures.added

pub push_endless-returns-in-Enum-clause-added : goal.push_endless-returns-in-Enum-clause-added
push_endless-returns-in-Enum-clause-added t c = rw (c.in-Enum.is, endless_enum) c.push_in_named-in-Enum.ensures.added

pub push_endless-returns-in_ok-push_here-in-Seq-clause-added : goal.push_endless-returns-in_ok-push_here-in-Seq-clause-added
push_endless-returns-in_ok-push_here-in-Seq-clause-added t c =
    let here = map plain_step c.args.here.now.items in
    let paths = endless c.in-Seq.element.value in
    let old = map plain_path c.args.paths.now.items in
    let now = map plain_path c.push_here.new.paths.items in
    let is = after_here here old now (after (at_each ∷ []) paths) c.in_ok-push_here-in-Seq.ensures.added
    ∙ ap (λ ps. now ++ ps) (after_step here at_each paths) in
    rw (c.in-Seq.is, endless_seq, is, ← c.deref-in-Seq.ensures) c.push_within.ensures.added

pub push_endless-returns-else-count-eq0-clause-added : goal.push_endless-returns-else-count-eq0-clause-added
push_endless-returns-else-count-eq0-clause-added t c =
    let here = map plain_step c.args.here.now.items in
    let paths = endless c.in-Array.element.value in
    let some : 0 < c.in-Array.count = omega arith in
    let is = some_elements c.in-Array.count (after (at_each ∷ []) paths) some in
    rw (c.in-Array.is, endless_array, is, after_step here at_each paths, ← c.deref-in-Array.ensures) c.push_within-in-Array.ensures.added

pub push_endless-returns-in_ok-push_within-in-Map-2-clause-added : goal.push_endless-returns-in_ok-push_within-in-Map-2-clause-added
push_endless-returns-in_ok-push_within-in-Map-2-clause-added t c =
    let here = map plain_step c.args.here.now.items in
    let keys = endless c.in-Map.key.value in
    let values = endless c.in-Map.value.value in
    let entry : map plain_step c.push.new.self.items ≡ here ++ at_each ∷ [] = ap (map plain_step) c.in_ok-push-in-Map.ensures.items ∙ map_push plain_step _ _ in
    let back = ap (map plain_step) c.in_ok-push_within-in-Map.ensures.back ∙ entry in
    rw (c.in-Map.is, endless_map) (after_entries here keys values _ _ _ _ c.in_ok-push_here-in-Map.ensures.added
    (moved (here ++ at_each ∷ []) _ (at_part 0) _ keys _ _ _ entry refl (ap endless c.deref-in-Map.ensures) c.in_ok-push_within-in-Map.ensures.added)
    (moved (here ++ at_each ∷ []) _ (at_part 1) _ values _ _ _ back refl (ap endless c.deref-in-Map-2.ensures) c.in_ok-push_within-in-Map-2.ensures.added))

pub push_in_parts-loop-number-preserved : goal.push_in_parts-loop-number-preserved
push_in_parts-loop-number-preserved t c =
    let xs = c.deref-part-items.result.now in
    let k = c.loop-number.number in
    let x = c.part-item.result in
    let low : k < length xs = omega arith in
    let here = map plain_step c.args.here.now.items in
    let back = c.loop-number.invariant.back in
    let added = moved here _ (at_part k) _ (endless x) _ _ _ (ap (map plain_step) back) refl refl c.in_ok-push_within.ensures.added in
    record {
      back = cc (c.in_ok-push_within.ensures.back, back);
      whole = next here (at_part k) (endless x) (in_parts (k + 1) (map endless (drop (k + 1) xs))) _ _ _ _ added
          (cut (λ ys. after here (in_parts k (map endless ys))) xs k x low c.part-item.is) c.loop-number.invariant.whole;
    }

pub push_in_named-loop-part-preserved : goal.push_in_named-loop-part-preserved
push_in_named-loop-part-preserved t c =
    let ns = c.deref-part-items.result.now in
    let k = c.loop-part.part-index in
    let n = c.part-item.result in
    let low : k < length ns = omega arith in
    let here = map plain_step c.args.here.now.items in
    let step = at_name (string_bytes n.name) in
    let back = c.loop-part.invariant.back in
    let added = moved here _ step _ (endless n.content) _ _ _ (ap (map plain_step) back) (ap at_name c.deref.ensures) refl c.in_ok-push_within.ensures.added in
    record {
      back = cc (c.in_ok-push_within.ensures.back, back);
      whole = next here step (endless n.content) (in_named endless (drop (k + 1) ns)) _ _ _ _ added
          (cut (λ ms. after here (in_named endless ms)) ns k n low c.part-item.is) c.loop-part.invariant.whole;
    }
