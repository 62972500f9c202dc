use Rattle.std.proofs.Common.{ℕ, List, ◌++◌, sym, ap, ◌∙◌}
use Rattle.std.proofs.lemmas.List.{append_cancel_left}
use Rattle.postcard_wire.specs.Spelling.{canonical}
use Rattle.postcard_wire.proofs.Shortest.{Spells-canonical}
use Rattle.postcard_de.proofs.laws.read_again.Goals as goal

pub returns : goal.returns
returns g c = let type = g.T.Shaped.shape in record {
  spelled = λ t r. Spells-canonical t (type.well_formed t r);
  no_other_front = λ t s p rest left r k e f.
      let d = type.delimited s t p (canonical t) left rest k r e (Spells-canonical t (type.well_formed t r))
      f in (
        d.1,
        d.0,
        append_cancel_left (canonical t) left rest
            (ap (λ (l : List ℕ). l ++ left) (sym d.0) ∙ f),
      );
}
