-- One more element joins those of the heap.
use Rattle.std.proofs.Common.{[], ◌∷◌, ◌++◌, sym, ap, ◌∙◌, append_assoc}
use Rattle.std.proofs.lemmas.List.Sorted.{IsPermutation-push_more}
use Rattle.std.specs.BinaryHeap.{heap_items}
use Rattle.std.specs.Vec.Iter.{into_iter_items}
use Rattle.postcard_de.proofs.values.heaps.heap_of.Goals as goal

pub loop-item-preserved : goal.loop-item-preserved
loop-item-preserved g c =
    let x = c.in-Some.item in
    let so = c.loop-item.invariant in
    record {
      done = so.done ++ x ∷ [];
      is = append_assoc so.done (x ∷ []) (into_iter_items c.next.new.self) ∙ ap (λ z. so.done ++ z) (sym c.in-Some.ensures.steps.0) ∙ so.is;
      moved = IsPermutation-push_more so.done (heap_items c.loop-item.heap) (heap_items c.push.new.self) x so.moved c.in_ok-push.ensures.permutation;
    }
