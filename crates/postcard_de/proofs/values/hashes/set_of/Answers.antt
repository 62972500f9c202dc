-- One more key is put into the set.
use Rattle.std.proofs.Common.{Bool, true, false, not, [], ◌∷◌, ◌++◌, ◌≡◌, sym, ap, ◌∙◌, append_assoc}
use Rattle.std.specs.Bool.{MatchBool}
use Rattle.std.specs.Vec.Iter.{into_iter_items}
use Rattle.postcard_shape.proofs.Distinct.{puts_last}
use Rattle.postcard_shape.specs.Maps.{PutsKey}
use Rattle.postcard_de.proofs.values.hashes.set_of.Goals as goal

-- What holds in two cases holds in them by the opposite of what tells them apart.
swapped : (P Q : Type 0) (b c : Bool) → b ≡ not c → MatchBool b P Q → MatchBool c Q P
swapped P Q b true e m = rw e at m
swapped P Q b false e m = rw e at m

pub loop-key-preserved : goal.loop-key-preserved
loop-key-preserved g c =
    let k = c.in-Some.key in
    let so = c.loop-key.invariant in
    record {
      done = so.done ++ k ∷ [];
      is = append_assoc so.done (k ∷ []) (into_iter_items c.next.new.self) ∙ ap (λ z. so.done ++ z) (sym c.in-Some.ensures.steps.0) ∙ so.is;
      made = puts_last (PutsKey g.K.PartialEq.eq) so.done k [] c.loop-key.set.keys c.insert.new.self.keys so.made
          (swapped _ _ c.in_ok-insert.field-0 _ c.in_ok-insert.ensures.added c.in_ok-insert.ensures.keys);
    }
