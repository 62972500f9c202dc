-- No `Life` is owned, so a borrow of one gives anything. Assumes `Logic`.
use base.Fraction.{full_share}
use base.Logic.{sep, wand, never_e}
use base.Fml.{fbor}
use base.Before.{before}
use types.Logic.{sem, lfts}
use types.Kit.{‵, raw, ◌⊛◌, later, ◌$◌, !, qed, keep, move, use1, use2, split, fsplit, fpick, await, updating, now, done}
use denote.Memory.{part_at, part_of}
use denote.SharingLaws.{ends_shr_laws}
use mathlib.Core.List.{[], ◌∷◌}
use Rattle.postcard_memory.specs.contracts.memory.life.Life as C
use Rattle.postcard_memory.proofs.memory.life.Life.TheLaw.Statement.{statement}

pub shares : statement
unfolding part_of
shares = record {
  shr_laws = λ d b o. ends_shr_laws d;
  shares = λ M 𝓤 𝓛 d κ ts b o inc sp.
      let P = part_at C.the_written full_share d b o in
      let Q = before κ d in
      qed 𝓛 (‵ (fbor κ P) ∷ raw (lfts 𝓛 ts) ∷ []) {P = 𝓛.H.⇛ (sep 𝓤 (sem 𝓛 Q) (lfts 𝓛 ts))} (
      updating ! $ use2 𝓛 (later (‵ P ⊛ raw (wand 𝓤 (sem 𝓛 P) (𝓛.H.⇛ (sep 𝓤 (𝓛.A.bor κ P) (lfts 𝓛 ts)))))) (𝓛.more.bor_acc_by κ ts P sp) $ await ! tt $ split ! $
      fpick ! (λ vs. fsplit ! $ move ! (1 ∷ []) $
      use1 𝓛 (‵ Q ⊛ raw (lfts 𝓛 ts)) (never_e 𝓤 _) $ split ! $ keep ! (0 ∷ 1 ∷ []) $ now ! $ done !));
}
