use Rattle.std.proofs.Common.{◌≡◌, ℕ, ◌≤◌, ◌↔◌, List, [], length, Ok, Err, Result, IfOk, IfErr, IsOk, sym}
use mir.Syntax.{named, erased}
use denote.Builtin.{u8}
use denote.Struct.Field.{shr_slice_field}
use Rattle.std.specs.Borrow.{Bor}
use Rattle.std.specs.Io.BufRead.{Rests}
use types.Logic.{sem}
use Rattle.postcard_wire.specs.declared.error.Error.{Error}
use Rattle.postcard_wire.specs.declared.error.Error.TheVariants.{DeserializeUnexpectedEnd}
use Rattle.postcard_de_flavors.specs.Source.{known, LendsFront, LeavesRest, IsEndOf}
use Rattle.postcard_de_flavors.specs.contracts.slice.Slice.{the_row}
use Rattle.postcard_de_flavors.specs.contracts.slice.SliceFlavor.TheImpl as the_impl
use Rattle.postcard_de_flavors.specs.contracts.slice.SliceFlavor.try_take_n_temp as own
use Rattle.postcard_de_flavors.specs.contracts.flavor.Flavor.try_take_n_temp as its_trait
use Rattle.postcard_de_flavors.proofs.Cut.{taken}
use Rattle.postcard_de_flavors.proofs.Weakening.{rests_less, reordered, turns}
use Rattle.postcard_de_flavors.proofs.slice.SliceFlavor.TheImpl.Goals as goal

-- `LeavesRest` implies `LendsFront` for a source over a list.
lends : (old : List ℕ) (r : Result (Bor (List ℕ)) Error) (new : List ℕ) → LeavesRest old r new → LendsFront known (λ s n. n ≤ length s) (λ s t. IsEndOf t s) old r new
lends old (Ok front) new h = (taken old front.now new h.0, (front.now, h.0))
lends old (Err e) new h = (tt, ([], sym h.1))

pub try_take_n_temp-meets : goal.try_take_n_temp-meets
try_take_n_temp-meets g x c =
    let s = c.args.self in
    let row = the_row (record { mir = named 1; lft = [] }) in
    let field = (shr_slice_field (record { mir = erased; lft = g.lifetime.n1 }) u8 tt).row in
    turns g.world.𝓤 _ _
    (λ r e. (own.clauses g.world.𝓛 g.world.𝓜.mem g.world.𝓡.returns (c.lifetimes.0, (g.lifetime.n1, tt)) (c.args.self, (c.args.ct, tt))).ensures tt r e)
    (λ r e. (its_trait.clauses (the_row (record { mir = erased; lft = g.lifetime.n1 })) field field the_impl.ghosts the_impl.dict x g.world.𝓛 g.world.𝓜.mem g.world.𝓡.returns c.lifetimes (c.args.self, (c.args.ct, tt))).ensures c.ghost r (e.0, (e.1.0, tt)))
    (λ r e. reordered g.world.𝓤 (IfOk r (λ front. length front.now ≡ c.args.ct)) (IfErr r (λ f. f ≡ DeserializeUnexpectedEnd)) (IsOk r ↔ (c.args.ct ≤ length s.now)) (c.args.ct ≤ length s.now → IsOk r)
    (sem g.world.𝓛 (Rests row s (LeavesRest s.now r))) (sem g.world.𝓛 (Rests row s (LendsFront known (λ l n. n ≤ length l) (λ l t. IsEndOf t l) s.now r)))
    (rests_less g.world.𝓛 row s _ _ (lends s.now r)) (λ k. k.1))
