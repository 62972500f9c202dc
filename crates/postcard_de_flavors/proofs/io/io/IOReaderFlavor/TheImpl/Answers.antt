use mathlib.Core.List.{[], ◌∷◌}
use mir.Syntax.{erased}
use seplogic.Ra.Ura.{Ura}
use base.Logic.{SProp, ent, sep, mono∗, mono_r, fst∗}
use contract.Monad.{fact}
use denote.Builtin.{u8}
use denote.Param.{param}
use denote.Struct.Tuple.{Tuple}
use denote.Struct.Field.{mut_slice_field, shr_slice_field}
use Rattle.postcard_de_flavors.specs.contracts.io.io.IOReader.{the_row}
use Rattle.postcard_de_flavors.specs.contracts.io.io.IOReaderFlavor.TheImpl as the_impl
use Rattle.postcard_de_flavors.specs.contracts.io.io.IOReaderFlavor.try_take_n_temp as own
use Rattle.postcard_de_flavors.specs.contracts.flavor.Flavor.try_take_n_temp as its_trait
use Rattle.postcard_de_flavors.proofs.Weakening.{rests_less, turns}
use Rattle.postcard_de_flavors.proofs.io.io.IOReaderFlavor.TheImpl.Goals as goal

-- From the clauses A, P, B, C and D follow A, Q, B and C, if P entails Q.
fewer : {M : Type 1} (𝓤 : Ura M) (A B C D : Type 0) (P Q : SProp 𝓤) → ent 𝓤 P Q
    → ent 𝓤 (sep 𝓤 (fact 𝓤 A) (sep 𝓤 P (sep 𝓤 (fact 𝓤 B) (sep 𝓤 (fact 𝓤 C) (fact 𝓤 D))))) (sep 𝓤 (fact 𝓤 A) (sep 𝓤 Q (sep 𝓤 (fact 𝓤 B) (fact 𝓤 C))))
fewer 𝓤 A B C D P Q less = mono_r 𝓤 (fact 𝓤 A) (mono∗ 𝓤 less (mono_r 𝓤 (fact 𝓤 B) (fst∗ 𝓤 (fact 𝓤 C) (fact 𝓤 D))))

pub try_take_n_temp-meets : goal.try_take_n_temp-meets
try_take_n_temp-meets g x c =
    let row = the_row (record { mir = erased; lft = g.lifetime.n1 }) (param 0 g.row.T) in
    let remainder = Tuple (param 0 g.row.T ∷ (mut_slice_field (record { mir = erased; lft = g.lifetime.n1 }) u8 tt).row ∷ []) in
    let lent = (shr_slice_field (record { mir = erased; lft = g.lifetime.n1 }) u8 tt).row in
    turns g.world.𝓤 _ _
    (λ r e. (own.clauses g.row.T g.T.Reader g.T.Reader-dict g.T.Read g.T.Read-dict g.T.Destruct-dict g.world.𝓛 g.world.𝓜.mem g.world.𝓡.returns (c.lifetimes.0, (g.lifetime.n1, (c.lifetimes.1.0, tt))) (c.args.self, (c.args.ct, tt))).ensures tt r e)
    (λ r e. (its_trait.clauses row remainder lent (the_impl.ghosts g.row.T g.T.Reader g.T.Reader-dict g.T.Read g.T.Read-dict g.T.Destruct-dict) (the_impl.dict g.row.T g.T.Reader g.T.Reader-dict g.T.Read g.T.Read-dict g.T.Destruct-dict) x g.world.𝓛 g.world.𝓜.mem g.world.𝓡.returns c.lifetimes (c.args.self, (c.args.ct, tt))).ensures c.ghost r (e.0, (e.1.0, tt)))
    (λ r e. fewer g.world.𝓤 _ _ _ _ _ _ (rests_less g.world.𝓛 row c.args.self _ _ (λ new known. known.0)))
