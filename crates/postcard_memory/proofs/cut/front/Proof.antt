-- `front` exchanges the whole slice for its front. Assumes `Logic`.
use Rattle.postcard_memory.proofs.Steps.{ℕ, MutBor, List, [], ◌∷◌, ◌≡◌, ◌≤◌, sym, refl, w64, ‵, raw, ◌⊛◌, some, later, await, pick, tables, ftrue, flft, named, vint, ◌$◌, ◌∵◌, !, qed, move, keep, split, join, fsplit, fjoin, rewrite, done, enter, alloc_all, pass_all, free_all, look_at, look_in_at, get, sets, sets_last, fld, hop, from, stop, agg, addr, and_then, no_more, of_opd, first, blocks, exec, at_ret, returns, sub, whole, env, plain, yes, no, u8, heard, use2, Stays, walk_of, stay_dropped, Goes-dropped, Goes-spent_slice, suffices, nothing, MutSlice, mut_slice_vals, mut_slice_Tells, slice_val, Room, uint_vals, uint_Tells, fact, proved}
use Rattle.std.proofs.Common.{◌<◌, ◌*◌, ◌^◌, ◌++◌, length, take, drop as drop_list, arith}
use Rattle.std.proofs.raw_atomic.Walks.{leaves}
use Rattle.std.proofs.VecSteps.Shapes.{after}
use lib.ListN.{take-append-drop}
use base.Fml.{GName}
use base.Logic.{emp}
use borrow.Table.Elements.{length-take-le}
use contract.Monad.{fact_i}
use types.Kit.{use0, split3}
use denote.Array.{Array}
use denote.Builtin.{usize, SliceRefMutOf}
use denote.Follow.{follows}
use denote.RattleType.{RattleType, owns}
use denote.Signature.{types_at}
use Rattle.postcard_memory.specs.contracts.cut.front as f
use Rattle.postcard_memory.proofs.cut.front.Statement.{statement}
use Rattle.postcard_memory.proofs.cut.front.Code as code
use Rattle.postcard_memory.proofs.Prefix.{lends_front}

abbrev stayed : Stays f.ended.signature.params f.ended.kept
stayed = (stay_dropped (SliceRefMutOf (0 ∷ []) tt (plain (λ _. u8)) (λ _. tt)) no, (stay_dropped (plain (λ _. usize)) yes, tt))

pub front_spec : {M : Type 1} → statement M
front_spec 𝓤 𝓛 𝓜 𝓡 wired =
    let c = f.clauses 𝓛 𝓜.mem 𝓡.returns in let W = walk_of 𝓛 f.ended stayed c in let 𝓣 = tables 𝓤 𝓛.H 𝓜 𝓡 𝓡.env in
    proved 𝓛 f.ended stayed c 𝓜 𝓡 (Goes-spent_slice 𝓛 1 (0 ∷ []) tt (plain (λ _. u8)), (Goes-dropped 𝓛 1 (plain (λ _. usize)) yes (λ κs x w. refl), tt))
    f.Key.name code.function (code.unfolded 𝓤 𝓛.H 𝓜 𝓡 wired)
    (λ κs. (mut_slice_vals, (uint_vals w64, tt))) (λ κs. (mut_slice_Tells (named 0) κs.0 u8, (uint_Tells w64, tt))) (λ κs qs bounds a _ are.
    let κ = κs.0 in let q = qs.0 in let b = a.0.ref_ptr.0 in let o = a.0.ref_ptr.1 in let γ = a.0.ghost_name in let xs : List ℕ = a.0.now in let n : ℕ = a.1.0 in
    let bytes : length xs * 1 < 2 ^ 63 = are.0.0.1.1 in let long : length xs < 2 ^ 64 = are.0.0.1.0 in let fits : n < 2 ^ 64 = are.1.0.1 in
    let Own : RattleType = MutSlice (named 0) κ u8 in let front : List ℕ = take n xs in let back : List ℕ = drop_list n xs in
    let y : W.Ghost = ((κs, qs, bounds, a, (mut_slice_vals a.0, (vint w64 n ∷ [], tt))), tt) in
    qed 𝓛 (((‵ (flft κ q) ⊛ ‵ ftrue) ⊛ ‵ (owns (types_at f.ended.signature.params κs) a y.0.4)) ∷ raw (fact 𝓤 (n ≤ length xs)) ∷ []) ∵
    move ! (1 ∷ []) $ heard ! _ (λ asked. split ! $ split ! $ move ! (2 ∷ []) $ fsplit ! $ keep ! (0 ∷ 2 ∷ []) $
    enter ! _ _ _ _ _ $ alloc_all ! (λ l. pass_all ! refl ((tt, (tt, (record { fits = long }, tt))), ((tt, record { fits = fits }), tt)) $
    -- [the slice; the token]
    first ! $ blocks ! $
    sets ! (addr ! (from ! (fld ! refl (hop ! (look_in_at ! 1 (sub ! 0 refl (whole !))) (stop !))))) refl (tt, tt) $
    sets_last ! (agg ! (and_then ! (get ! refl) (and_then ! (get ! refl) (no_more !)))) refl (tt, (tt, (record { fits = fits }, tt))) $
    exec ! 𝓣.C 𝓣.Λ (env code.Mir.locals l) (after 1 (code.function).body) (at_ret (env code.Mir.locals l) (W.post y)) $
    sets ! (of_opd ! (get ! refl)) refl (tt, (tt, (record { fits = fits }, tt))) $
    let cut : length front ≡ n = length-take-le n xs asked in let room : Room u8 (length front) = (omega arith, omega arith) in
    let at_front : GName → MutBor (List ℕ) = λ δ. record { ref_ptr = (b, o); ghost_name = δ; now = front } in
    rewrite ! 0 (λ (l : List ℕ). ‵ (Own.own_val (record { ref_ptr = (b, o); ghost_name = γ; now = l }) (mut_slice_vals a.0))) (sym (take-append-drop n xs)) refl $
    use2 𝓛 (later (some (λ (δ : GName). ‵ (Own.own_val (at_front δ) (slice_val (b, o) (length front) ∷ [])) ⊛ ‵ (flft κ q) ⊛ ‵ (follows (Array u8 0) (Array u8 0) γ δ (λ w. w ++ back)))))
    (lends_front 𝓛 (named 0) κ q b o γ front back room (mut_slice_vals a.0)) $ await ! tt $ pick ! (λ δ. split3 ! $
    rewrite ! 0 (λ (k : ℕ). ‵ (Own.own_val (at_front δ) (slice_val (b, o) k ∷ []))) cut refl $
    -- [the front; the token; what the whole follows]
    returns ! (look_at ! 0 refl) $ free_all ! refl $ keep ! (0 ∷ 1 ∷ 2 ∷ []) $
    nothing ! $ move ! (2 ∷ 0 ∷ []) $ join ! $ nothing ! $ nothing ! $ fjoin ! $ nothing ! $ fjoin ! $
    use0 𝓛 (raw (fact 𝓤 (front ≡ front))) (fact_i 𝓤 _ (emp 𝓤) refl) $
    suffices ! _ (leaves 𝓛 f.ended stayed c y (slice_val (b, o) n) (at_front δ) (tt, (tt, tt)) (tt, (tt, tt))) $ move ! (2 ∷ 1 ∷ 3 ∷ 4 ∷ 0 ∷ []) $ done !))))
