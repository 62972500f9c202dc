-- `new` keeps the pointer to the bytes and what a `&mut [u8]` owns of them. Assumes `Logic`.
use Rattle.postcard_memory.proofs.Steps.{[], ◌∷◌, refl, proved, ‵, raw, ◌⊛◌, tables, ftrue, flft, named, ◌$◌, ◌∵◌, !, qed, move, keep, split, drop, fsplit, enter, alloc_all, pass_all, free_all, look_at, look_in_at, get, sets, addr, from, fld, hop, stop, agg, and_then, no_more, returns, sub, whole, plain, no, u8, MutSlice, mut_slice_vals, mut_slice_Tells, Stays, walk_of, stay_dropped, Goes-spent_slice, suffices, ends_at, block_ptr, nothing, join}
use denote.Builtin.{SliceRefMutOf}
use Rattle.postcard_memory.specs.contracts.memory.Memory.new as f
use Rattle.postcard_memory.proofs.memory.Memory.new.Statement.{statement}
use Rattle.postcard_memory.proofs.memory.Memory.new.Code as code
use Rattle.std.proofs.Common.{◌<◌, ◌*◌, ◌^◌, ◌≡◌, arith}
use base.Logic.{emp}
use contract.Monad.{fact, fact_i}
use types.Kit.{group, done}
use types.Kit.{flt_i, use0, fjoin}
use Rattle.std.proofs.Common.{length}
use Rattle.postcard_memory.specs.declared.memory.Memory.{Memory}
use Rattle.postcard_memory.proofs.Parts.{words, Words, made}
use Rattle.postcard_memory.proofs.Steps.{sets_last, exec, at_ret, env, Val, List, of_opd, first, blocks, feq_i, through}
use Rattle.std.proofs.VecSteps.Shapes.{after}
use Rattle.postcard_memory.proofs.Parts.{pair_val, pair_of}
use base.Before.{before}
use base.Fml.{Lft, Incl-refl}
use denote.Opens.{hide}
use denote.Ref.{Bor, ShrRef}
use denote.Struct.Tuple.{Tuple}
use mir.Val.{vptr}
use types.Kit.{use2}
use types.Na.{before-Incl}
use Rattle.postcard_memory.specs.contracts.memory.Memory.{the_row}
use Rattle.postcard_memory.specs.contracts.memory.life.Life as L

abbrev stayed : Stays f.ended.signature.params f.ended.kept
stayed = (stay_dropped (SliceRefMutOf (0 ∷ []) tt (plain (λ _. u8)) (λ _. tt)) no, tt)

pub new_spec : {M : Type 1} → statement M
new_spec 𝓤 𝓛 𝓜 𝓡 wired =
    let c = f.clauses 𝓛 𝓜.mem 𝓡.returns in let W = walk_of 𝓛 f.ended stayed c in let 𝓣 = tables 𝓤 𝓛.H 𝓜 𝓡 𝓡.env in
    proved 𝓛 f.ended stayed c 𝓜 𝓡 (Goes-spent_slice 𝓛 1 (0 ∷ []) tt (plain (λ _. u8)), tt)
    f.Key.name code.function (code.unfolded 𝓤 𝓛.H 𝓜 𝓡 wired)
    (λ κs. (mut_slice_vals, tt)) (λ κs. (mut_slice_Tells (named 0) κs.0 u8, tt)) (λ κs qs bounds a _ are.
    let κ = κs.0 in let q = qs.0 in let b = a.0.ref_ptr.0 in let o = a.0.ref_ptr.1 in let γ = a.0.ghost_name in let xs = a.0.now in
    let bytes : length xs * 1 < 2 ^ 63 = are.0.0.1.1 in let m = words (block_ptr b o) in let p : Val = vptr b o in let v = pair_val m p in
    let d : Memory = record { start = block_ptr b o; time = κ; loan = γ; items = xs } in let life : Bor Lft = record { ref_ptr = (b, o); now = κ } in
    let y : W.Ghost = ((κs, qs, bounds, a, (mut_slice_vals a.0, tt)), tt) in
    qed 𝓛 (((‵ (flft κ q) ⊛ ‵ ftrue) ⊛ ‵ ((MutSlice (named 0) κ u8).own_val a.0 (mut_slice_vals a.0)) ⊛ ‵ ftrue) ∷ ‵ ftrue ∷ []) ∵
    split ! $ split ! $ move ! (2 ∷ []) $ split ! $ keep ! (0 ∷ 2 ∷ []) $
    enter ! _ _ _ _ _ $ alloc_all ! (λ l. pass_all ! refl ((tt, (tt, (record { fits = are.0.0.1.0 }, tt))), tt) $
    -- [the slice; the token of κ]
    sets ! (addr ! (from ! (fld ! refl (hop ! (look_in_at ! 1 (sub ! 0 refl (whole !))) (stop !))))) refl (tt, tt) $
    first ! $ blocks ! $ sets ! (of_opd ! (get ! refl)) refl (tt, tt) $
    sets_last ! (addr ! (through ! refl (stop !))) refl (tt, tt) $
    exec ! 𝓣.C 𝓣.Λ (env code.Mir.locals l) (after 2 (code.function).body) (at_ret _ (W.post y)) $
    sets ! (of_opd ! (get ! refl)) refl (tt, tt) $ sets ! (agg ! (and_then ! (get ! refl) (no_more !))) refl (tt, (tt, tt)) $
    sets ! (agg ! (and_then ! (get ! refl) (and_then ! (get ! refl) (no_more !)))) refl (tt, ((tt, tt), (tt, tt))) $
    returns ! (look_at ! 0 refl) $ free_all ! refl $
    fsplit ! $ drop ! $ flt_i ! (length xs) (2 ^ 63) (omega arith) $ fjoin ! $
    -- [the borrow; the token of κ]
    use0 𝓛 (‵ (Words.own_val (block_ptr b o, tt) (m ∷ []))) (made 𝓛 (block_ptr b o)) $ fjoin ! $
    use0 𝓛 (‵ (before κ κ)) (before-Incl 𝓛 κ κ (Incl-refl κ)) $ hide ! $ feq_i ! (List Val) (p ∷ []) (p ∷ []) refl $ fjoin ! $ move ! (1 ∷ 0 ∷ []) $
    use2 𝓛 (‵ ((Tuple (the_row ∷ ShrRef (named 0) κ L.the_row ∷ [])).own_val (d, life) (v ∷ []))) (pair_of 𝓛 the_row (ShrRef (named 0) κ L.the_row) d life m p) $
    -- [the result; the token of κ]
    suffices ! _ (ends_at 𝓛 f.ended stayed c y v (d, life) (tt, tt) (tt, tt)) $
    keep ! (0 ∷ 1 ∷ []) $ nothing ! $ nothing ! $ join ! $ nothing ! $ move ! (3 ∷ 0 ∷ []) $ join ! $ move ! (0 ∷ 1 ∷ 2 ∷ []) $ group ! 3 $
    use0 𝓛 (raw (fact 𝓤 (κ ≡ κ))) (fact_i 𝓤 _ (emp 𝓤) refl) $ use0 𝓛 (raw (fact 𝓤 ((γ ≡ γ) × (xs ≡ xs)))) (fact_i 𝓤 _ (emp 𝓤) (refl, refl)) $ move ! (2 ∷ 0 ∷ 1 ∷ []) $ done !))
