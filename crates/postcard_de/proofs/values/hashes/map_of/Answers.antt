-- One more pair is put into the map.
use Rattle.std.proofs.Common.{[], ◌∷◌, ◌++◌, ◌≡◌, sym, ap, subst, ◌∙◌, append_assoc, append-nil, arith, Bool, List, Option}
use Rattle.std.proofs.lemmas.List.{nil_from_length}
use Rattle.std.specs.Prelude.{MatchOption}
use Rattle.std.specs.List.Sorted.{IsPermutation}
use Rattle.std.specs.Map.{lookup, set_value}
use Rattle.std.specs.Vec.Iter.{into_iter_items}
use Rattle.postcard_shape.proofs.Distinct.{puts_last}
use Rattle.postcard_shape.specs.Maps.{Puts, PutsPair}
use Rattle.postcard_de.proofs.values.hashes.map_of.Goals as goal

-- The pair p is put into a map of the entries es, which then has fs.
one_pair : {A B : Type 0} (eq : A → A → Bool) (done : List (A × B)) (p : A × B) (es fs : List (A × B)) (old : Option B) → Puts (PutsPair eq) done [] es → old ≡ lookup (eq p.0) es →
    MatchOption old (IsPermutation (p ∷ es) fs) (λ _. fs ≡ set_value (eq p.0) es p.1) → Puts (PutsPair eq) (done ++ p ∷ []) [] fs
one_pair {A} {B} eq done p es fs old made was step =
    puts_last (PutsPair eq) done p [] es fs made
    (subst (λ (o : Option B). MatchOption o (IsPermutation (p ∷ es) fs) (λ _. fs ≡ set_value (eq p.0) es p.1)) was step)

pub loop-key-preserved : goal.loop-key-preserved
loop-key-preserved g c =
    let p : g.row.K.Denot × g.row.V.Denot = (c.in-Some.key, c.in-Some.value) in
    let so = c.loop-key.invariant in
    record {
      done = so.done ++ p ∷ [];
      is = append_assoc so.done (p ∷ []) (into_iter_items c.next.new.self) ∙ ap (λ z. so.done ++ z) (sym c.in-Some.ensures.steps.0) ∙ so.is;
      made = one_pair g.K.PartialEq.eq so.done p c.loop-key.map.entries c.insert.new.self.entries c.in_ok-insert.field-0 so.made c.in_ok-insert.ensures.old c.in_ok-insert.ensures.entries;
    }

pub loop-key-preserved-in_ok-insert : goal.loop-key-preserved-in_ok-insert
loop-key-preserved-in_ok-insert g c =
    let p : g.row.K.Denot × g.row.V.Denot = (c.in-Some.key, c.in-Some.value) in
    let so = c.loop-key.invariant in
    record {
      done = so.done ++ p ∷ [];
      is = append_assoc so.done (p ∷ []) (into_iter_items c.next.new.self) ∙ ap (λ z. so.done ++ z) (sym c.in-Some.ensures.steps.0) ∙ so.is;
      made = one_pair g.K.PartialEq.eq so.done p c.loop-key.map.entries c.insert.new.self.entries c.in_ok-insert.field-0 so.made c.in_ok-insert.ensures.old c.in_ok-insert.ensures.entries;
    }

pub returns-clause-entries : goal.returns-clause-entries
returns-clause-entries g c =
    let so = c.loop-key.invariant in
    let it = c.loop-key.key-iterator in
    let none : into_iter_items it ≡ [] = nil_from_length (into_iter_items it) (omega (arith, it.rest.ok, c.in-None.ensures.steps.0)) in
    let all : so.done ≡ c.args.pairs.items = sym (append-nil so.done) ∙ ap (λ z. so.done ++ z) (sym none) ∙ so.is in
    subst (λ (z : List (g.row.K.Denot × g.row.V.Denot)). Puts (PutsPair g.K.PartialEq.eq) z [] c.loop-key.map.entries) all so.made
