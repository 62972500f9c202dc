-- `beside` hands the bytes on with the value, or lets them go with the error. Assumes `Logic`.
use Rattle.postcard_memory.proofs.Steps.{ℕ, MutBor, List, [], ◌∷◌, refl, sym, ‵, raw, ◌⊛◌, tables, ftrue, flft, fres, named, Val, ◌$◌, ◌∵◌, !, qed, move, keep, split, join, fsplit3, fjoin, rewrite, done, enter, alloc_all, pass_all, free_all, look_at, look_in_at, get, get_in, sets, sets_last, fld, hop, from, stop, agg, lit, addr, and_then, no_more, of_opd, first, exec, at_ret, returns, sub, whole, env, plain, no, u8, heard, peeks, shows, use1, use2, Stays, walk_of, stay_dropped, Goes-spent_slice, suffices, nothing, MutSlice, slice_val, mut_slice_vals, mut_slice_Tells, fact}
use Rattle.std.proofs.Common.{◌<◌, ◌^◌, ◌++◌, ◌∙◌, ap, length, subst, Ok, Err}
use Rattle.std.proofs.raw_atomic.Walks.{proved_at, leaves}
use Rattle.std.proofs.VecSteps.Shapes.{after, head, arm_body}
use Rattle.std.proofs.ResultValues.{ok_of, err_of, and_tt}
use Rattle.std.proofs.RcSteps.{first_Good, some_Good}
use Rattle.std.proofs.alloc.Calls.{Goes-blank}
use Rattle.std.specs.contracts.result.Result as RS
use Rattle.std.specs.Borrow.{name_if_ok}
use Rattle.postcard_wire.specs.declared.error.Error.{Error}
use Rattle.postcard_wire.specs.contracts.error.Error.{the_row as err_row}
use Rattle.postcard_wire.proofs.error.Error.TheLaws.{the_row_laws as err_laws}
use Rattle.postcard_memory.proofs.Parts.{pair_val, pair_of}
use base.Fml.{Lft, GName, Share, fobs}
use base.Logic.{SProp, ent, sep, emp}
use base.Stored.{coded_list}
use contract.BorrowLft.{◌⊑◌}
use contract.Monad.{Fun, fact_i}
use denote.Array.{Array}
use denote.Builtin.{SliceRefMutOf}
use denote.Exit.{Last, left}
use denote.Follow.{follows, follows_if, follows_by}
use denote.FollowSlice.{heres_id}
use denote.Laws.{Is}
use denote.Param.{param, layout, layouts}
use denote.Param.Laws.{Laws, param_laws}
use denote.Param.Mute.{blank}
use denote.RattleType.{RattleType, owns}
use denote.Signature.{types_at}
use denote.Struct.Tuple.{Tuple}
use denote.Triple.Clauses.{Clauses, Ended}
use lib.Dec.{T as Holds}
use mir.MapTy.{inst_fn}
use mir.Syntax.{Fn, Args, a_type}
use mir.Val.{of_list, WT, has_ty}
use prog.Memory.{Memory}
use prog.Routine.{Routine}
use prog.Wp.{Env, Calls, Loops, WpFn, Wp, after_seq, at_return}
use seplogic.Ra.Ura.{Ura}
use types.Kit.{Post as After, any_q, by, use0, some, given, pick, learn, split3}
use types.Logic.{Logic, sem}
use types.Match.{live, vrt, in_variant}
use types.Run.{switches_on}
use types.ByLocal.{get_tag}
use Rattle.postcard_frame.specs.Parts.{IsBeside}
use Rattle.postcard_frame.specs.contracts.cobs.beside as f
use Rattle.postcard_frame.proofs.cobs.beside.Statement.{statement}
use Rattle.postcard_frame.proofs.cobs.beside.Code as code
use Rattle.postcard_frame.proofs.Follows.{follows_self}
use Rattle.postcard_frame.proofs.Values.{one, Tagged, ok_in, err_in}

module _ (T : RattleType) where
  abbrev args : Args
  args = layouts (a_type ∷ []) (T, tt)

  abbrev fn : Fn
  fn = inst_fn args code.function

  abbrev ended : Ended
  ended = f.ended T

  abbrev Value : RattleType
  Value = param 0 T

  abbrev In : RattleType
  In = RS.the_row Value err_row

  -- A result by value leaves nothing at the exit.
  blank_in : (x : In.Denot) (w : Last (In.exit no) x) → Holds (blank (left (In.exit no) x w))
  blank_in (Ok x) w = tt
  blank_in (Err e) w = tt

  abbrev stayed : Stays ended.signature.params ended.kept
  stayed = (stay_dropped (plain (λ _. In)) no, (stay_dropped (SliceRefMutOf (0 ∷ []) tt (plain (λ _. u8)) (λ _. tt)) no, tt))

  module _ {M : Type 1} {𝓤 : Ura M} (𝓛 : Logic 𝓤) (L : Laws T) (at_mem : Memory → SProp 𝓤) (run : Routine → Fun 𝓤) (C : Calls 𝓤 𝓛.H) (Λ : Loops 𝓤 𝓛.H)
      (κ τ : Lft) (q q' : Share) (rest : MutBor (List ℕ)) where
    open 𝓛 use {H, A}

    abbrev clauses : Clauses 𝓤 ended
    clauses = f.clauses T 𝓛 at_mem run

    abbrev Own : RattleType
    Own = MutSlice (named 0) κ u8

    abbrev Pair : RattleType
    Pair = Tuple (Value ∷ Own ∷ [])

    abbrev Out : RattleType
    Out = RS.the_row Pair err_row

    abbrev γ : GName
    γ = rest.ghost_name

    abbrev bound : In.Denot → List Val → (walk_of 𝓛 ended stayed clauses).Ghost
    bound r vs = (((κ, (τ, tt)), (q, (q', tt)), tt, (r, (rest, tt)), (vs, (mut_slice_vals rest, tt))), tt)

    abbrev Post : In.Denot → List Val → Val → SProp 𝓤
    Post r vs = (walk_of 𝓛 ended stayed clauses).post (bound r vs)

    abbrev Kept : Out.Denot → SProp 𝓤
    Kept w = sem 𝓛 (follows_if (Array u8 0) (Array u8 0) γ (name_if_ok (λ x. x.1.ghost_name) w) (λ n. n) rest.now)

    exits : (r : In.Denot) (vs : List Val) (w : Out.Denot) (u : Val) → IsBeside r rest.now w
        → ent 𝓤 (sep 𝓤 (Kept w) (sep 𝓤 (sem 𝓛 (Out.own_val w (u ∷ []))) (sep 𝓤 (A.lft κ q) (A.lft τ q')))) (Post r vs u)
    exits (Ok x) vs w u same = qed 𝓛 (raw (Kept w) ∷ ‵ (Out.own_val w (u ∷ [])) ∷ ‵ (flft κ q) ∷ ‵ (flft τ q') ∷ []) ∵
        suffices ! _ (leaves 𝓛 ended stayed clauses (bound (Ok x) vs) u w ((tt, tt), (tt, tt)) (tt, (tt, tt))) $
        use0 𝓛 (raw (fact 𝓤 (IsBeside (Ok x) rest.now w))) (fact_i 𝓤 _ (emp 𝓤) same) $ nothing ! $ move ! (5 ∷ 0 ∷ []) $ join ! $ move ! (4 ∷ 0 ∷ []) $ join ! $
        -- [the tokens; what is shown; what the rest follows; the result]
        nothing ! $ nothing ! $ fjoin ! $ nothing ! $ fjoin ! $ move ! (1 ∷ 0 ∷ 4 ∷ 3 ∷ 2 ∷ []) $ done !
    exits (Err x) vs w u same = qed 𝓛 (raw (Kept w) ∷ ‵ (Out.own_val w (u ∷ [])) ∷ ‵ (flft κ q) ∷ ‵ (flft τ q') ∷ []) ∵
        suffices ! _ (leaves 𝓛 ended stayed clauses (bound (Err x) vs) u w (tt, (tt, tt)) (tt, (tt, tt))) $
        use0 𝓛 (raw (fact 𝓤 (IsBeside (Err x) rest.now w))) (fact_i 𝓤 _ (emp 𝓤) same) $ nothing ! $ move ! (5 ∷ 0 ∷ []) $ join ! $ move ! (4 ∷ 0 ∷ []) $ join ! $
        -- [the tokens; what is shown; what the rest follows; the result]
        nothing ! $ nothing ! $ fjoin ! $ nothing ! $ fjoin ! $ move ! (1 ∷ 0 ∷ 4 ∷ 3 ∷ 2 ∷ []) $ done !

    abbrev Had : In.Denot → List Val → SProp 𝓤
    Had r vs = sep 𝓤 (sem 𝓛 (In.own_val r vs)) (sep 𝓤 (sem 𝓛 (Own.own_val rest (mut_slice_vals rest))) (sep 𝓤 (A.lft κ q) (A.lft τ q')))

    ok : length rest.now < 2 ^ 64 → (x : T.Denot) (w : Val) → Holds (has_ty (layout T) w) × WT w
        → ent 𝓤 (sep 𝓤 (sem 𝓛 (Value.own_val x (w ∷ []))) (sep 𝓤 (sem 𝓛 (Own.own_val rest (mut_slice_vals rest))) (sep 𝓤 (A.lft κ q) (A.lft τ q'))))
        (WpFn 𝓤 H C Λ fn (live 0 (of_list (w ∷ [])) ∷ slice_val rest.ref_ptr (length rest.now) ∷ []) (Post (Ok x) (live 0 (of_list (w ∷ [])) ∷ [])))
    unfolding follows_by
    ok long x w good =
        let vs : List Val = live 0 (of_list (w ∷ [])) ∷ [] in let s : Val = slice_val rest.ref_ptr (length rest.now) in
        let made = first_Good (layout T) w good in
        let pair : Holds (has_ty (layout Pair) (pair_val w s)) × WT (pair_val w s) = (and_tt _ good.0, (good.1, ((tt, (record { fits = long }, tt)), tt))) in
        let out = first_Good (layout Pair) (pair_val w s) pair in
        qed 𝓛 (‵ (Value.own_val x (w ∷ [])) ∷ ‵ (Own.own_val rest (mut_slice_vals rest)) ∷ ‵ (flft κ q) ∷ ‵ (flft τ q') ∷ []) ∵
        enter ! C Λ fn (live 0 (of_list (w ∷ [])) ∷ s ∷ []) _ $ alloc_all ! (λ l. pass_all ! refl (made, ((tt, (tt, (record { fits = long }, tt))), tt)) $
        let En : Env 𝓤 H = env fn.locals l in
        let Then : After 𝓤 H = any_q (after_seq 𝓤 H (Wp 𝓤 H C Λ En (after 1 fn.body) (at_return 𝓤 H En (Post (Ok x) vs))) (at_return 𝓤 H En (Post (Ok x) vs))) in
        first ! $ switches_on ! (get_tag ! (vrt ! refl (fld ! refl (stop !))) (whole !)) $ exec ! C Λ En (arm_body 0 (head fn.body)) Then $
        sets ! (of_opd ! (get_in ! (vrt ! refl (fld ! refl (stop !))) (in_variant ! 0 0 refl refl (whole !)))) refl good $
        sets ! (of_opd ! (get ! refl)) refl good $
        sets ! (addr ! (from ! (fld ! refl (hop ! (look_in_at ! 2 (sub ! 0 refl (whole !))) (stop !))))) refl (tt, tt) $
        sets ! (agg ! (and_then ! (get ! refl) (and_then ! (get_in ! (fld ! refl (stop !)) (sub ! 1 refl (whole !))) (no_more !)))) refl (tt, (tt, (record { fits = long }, tt))) $
        sets ! (agg ! (and_then ! (get ! refl) (and_then ! (get ! refl) (no_more !)))) refl pair $
        sets_last ! (agg ! (and_then ! (lit ! tt) (and_then ! (get ! refl) (no_more !)))) refl out $
        exec ! C Λ En (after 1 fn.body) (at_ret En (Post (Ok x) vs)) $ sets ! (of_opd ! (get ! refl)) refl out $
        use2 𝓛 (‵ (Pair.own_val (x, rest) (pair_val w s ∷ []))) (pair_of 𝓛 Value Own x rest w s) $
        use1 𝓛 (‵ (Out.own_val (Ok (x, rest)) (live 0 (of_list (pair_val w s ∷ [])) ∷ []))) (ok_of 𝓛 Pair err_row (x, rest) (pair_val w s)) $
        returns ! (look_at ! 0 refl) $ free_all ! refl $ keep ! (0 ∷ 1 ∷ 2 ∷ []) $
        use0 𝓛 (‵ (follows (Array u8 0) (Array u8 0) γ γ (λ n. n))) (follows_self 𝓛 (Array u8 0) γ) $
        by ! (exits (Ok x) vs (Ok (x, rest)) (live 0 (of_list (pair_val w s ∷ []))) (refl, refl)))

    err : length rest.now < 2 ^ 64 → (e : Error) (w : Val) → Holds (has_ty (layout err_row) w) × WT w
        → ent 𝓤 (sep 𝓤 (sem 𝓛 (err_row.own_val e (w ∷ []))) (sep 𝓤 (sem 𝓛 (Own.own_val rest (mut_slice_vals rest))) (sep 𝓤 (A.lft κ q) (A.lft τ q'))))
        (WpFn 𝓤 H C Λ fn (live 1 (of_list (w ∷ [])) ∷ slice_val rest.ref_ptr (length rest.now) ∷ []) (Post (Err e) (live 1 (of_list (w ∷ [])) ∷ [])))
    unfolding follows_by
    err long e w good =
        let vs : List Val = live 1 (of_list (w ∷ [])) ∷ [] in let s : Val = slice_val rest.ref_ptr (length rest.now) in
        let out = some_Good (layout err_row) w good in
        qed 𝓛 (‵ (err_row.own_val e (w ∷ [])) ∷ ‵ (Own.own_val rest (mut_slice_vals rest)) ∷ ‵ (flft κ q) ∷ ‵ (flft τ q') ∷ []) ∵
        enter ! C Λ fn (live 1 (of_list (w ∷ [])) ∷ s ∷ []) _ $ alloc_all ! (λ l. pass_all ! refl (out, ((tt, (tt, (record { fits = long }, tt))), tt)) $
        let En : Env 𝓤 H = env fn.locals l in
        let Then : After 𝓤 H = any_q (after_seq 𝓤 H (Wp 𝓤 H C Λ En (after 1 fn.body) (at_return 𝓤 H En (Post (Err e) vs))) (at_return 𝓤 H En (Post (Err e) vs))) in
        first ! $ switches_on ! (get_tag ! (vrt ! refl (fld ! refl (stop !))) (whole !)) $ exec ! C Λ En (arm_body 1 (head fn.body)) Then $
        sets ! (of_opd ! (get_in ! (vrt ! refl (fld ! refl (stop !))) (in_variant ! 1 0 refl refl (whole !)))) refl good $
        sets_last ! (agg ! (and_then ! (lit ! tt) (and_then ! (get ! refl) (no_more !)))) refl out $
        exec ! C Λ En (after 1 fn.body) (at_ret En (Post (Err e) vs)) $ sets ! (of_opd ! (get ! refl)) refl out $
        use1 𝓛 (‵ (Out.own_val (Err e) (live 1 (of_list (w ∷ [])) ∷ []))) (err_of 𝓛 Pair err_row e w) $
        returns ! (look_at ! 0 refl) $ free_all ! refl $ move ! (1 ∷ []) $ fsplit3 ! $ keep ! (1 ∷ 3 ∷ 4 ∷ 5 ∷ []) $
        rewrite ! 0 (λ (l : List ℕ). ‵ (fobs γ ((coded_list u8.coded).code l))) (heres_id u8 rest.now) refl $
        use1 𝓛 (‵ (fres γ ((coded_list u8.coded).code rest.now))) (𝓛.names.obs-res γ ((coded_list u8.coded).code rest.now)) $
        by ! (exits (Err e) vs (Err e) (live 1 (of_list (w ∷ []))) refl))

    walk : length rest.now < 2 ^ 64 → (r : In.Denot) (vs : List Val) → ent 𝓤 (Had r vs) (WpFn 𝓤 H C Λ fn (vs ++ (mut_slice_vals rest ++ [])) (Post r vs))
    walk long (Ok x) vs = qed 𝓛 (‵ (In.own_val (Ok x) vs) ∷ ‵ (Own.own_val rest (mut_slice_vals rest)) ∷ ‵ (flft κ q) ∷ ‵ (flft τ q') ∷ []) ∵
        use1 𝓛 (some (λ (us : List Val). given (Tagged 𝓛 Value err_row 0 vs us) (‵ (Value.own_val x us)))) (ok_in 𝓛 Value err_row x vs) $ pick ! (λ us. learn ! (λ e.
        peeks ! Value (Is Value) (shows 𝓛 Value) x us (λ is. let good = one (layout Value) us (((param_laws 0 T L).lawful 𝓛).typed x us is) in
        rewrite ! 0 (λ (ws : List Val). ‵ (Value.own_val x ws)) good.1 refl $
        by ! (subst (λ (ws : List Val). ent 𝓤 (sep 𝓤 (sem 𝓛 (Value.own_val x (good.0 ∷ []))) (sep 𝓤 (sem 𝓛 (Own.own_val rest (mut_slice_vals rest))) (sep 𝓤 (A.lft κ q) (A.lft τ q')))) (WpFn 𝓤 H C Λ fn (ws ++ (mut_slice_vals rest ++ [])) (Post (Ok x) ws)))
        (sym (e ∙ ap (λ (ws : List Val). live 0 (of_list ws) ∷ []) good.1)) (ok long x good.0 good.2)))))
    walk long (Err x) vs = qed 𝓛 (‵ (In.own_val (Err x) vs) ∷ ‵ (Own.own_val rest (mut_slice_vals rest)) ∷ ‵ (flft κ q) ∷ ‵ (flft τ q') ∷ []) ∵
        use1 𝓛 (some (λ (us : List Val). given (Tagged 𝓛 Value err_row 1 vs us) (‵ (err_row.own_val x us)))) (err_in 𝓛 Value err_row x vs) $ pick ! (λ us. learn ! (λ e.
        peeks ! err_row (Is err_row) (shows 𝓛 err_row) x us (λ is. let good = one (layout err_row) us ((err_laws.lawful 𝓛).typed x us is) in
        rewrite ! 0 (λ (ws : List Val). ‵ (err_row.own_val x ws)) good.1 refl $
        by ! (subst (λ (ws : List Val). ent 𝓤 (sep 𝓤 (sem 𝓛 (err_row.own_val x (good.0 ∷ []))) (sep 𝓤 (sem 𝓛 (Own.own_val rest (mut_slice_vals rest))) (sep 𝓤 (A.lft κ q) (A.lft τ q')))) (WpFn 𝓤 H C Λ fn (ws ++ (mut_slice_vals rest ++ [])) (Post (Err x) ws)))
        (sym (e ∙ ap (λ (ws : List Val). live 1 (of_list ws) ∷ []) good.1)) (err long x good.0 good.2)))))

pub beside_spec : {M : Type 1} → statement M
beside_spec 𝓤 𝓛 𝓜 𝓡 wired T L =
    let 𝓣 = tables 𝓤 𝓛.H 𝓜 𝓡 𝓡.env in let c = f.clauses T 𝓛 𝓜.mem 𝓡.returns in let W = walk_of 𝓛 (ended T) (stayed T) c in
    proved_at 𝓛 (ended T) (stayed T) c 𝓜 𝓡 (Goes-blank 𝓛 2 (plain (λ _. In T)) no (λ κs x w. blank_in T x w), (Goes-spent_slice 𝓛 2 (0 ∷ []) tt (plain (λ _. u8)), tt))
    (f.Key.name (args T)) (fn T) (code.unfolded 𝓤 𝓛.H 𝓜 𝓡 wired (T, tt)) (λ z are.
    let κs = z.0.0 in let qs = z.0.1 in let a = z.0.3 in let κ = κs.0 in let τ = κs.1.0 in
    let long : length a.1.0.now < 2 ^ 64 = are.1.0.0.1.0 in let TL : Type 0 = τ ⊑ T.lives in
    let At : List Val → W.Ghost = λ us. ((κs, qs, z.0.2, a, (z.0.4.0, (us, tt))), z.1) in
    subst (λ (us : List Val). ent 𝓤 (W.pre (At us)) (WpFn 𝓤 𝓛.H 𝓣.C 𝓣.Λ (fn T) (W.args (At us)) (W.post (At us)))) (sym (mut_slice_Tells (named 0) κ u8 a.1.0 z.0.4.1.0 are.1.0)) (
    qed 𝓛 (((‵ (flft κ qs.0) ⊛ ‵ (flft τ qs.1.0) ⊛ ‵ ftrue) ⊛ ‵ (owns (types_at (ended T).signature.params κs) a (z.0.4.0, (mut_slice_vals a.1.0, tt)))) ∷ raw (fact 𝓤 TL) ∷ ‵ ftrue ∷ []) ∵
    move ! (1 ∷ []) $ heard ! TL (λ _. split ! $ split3 ! $ move ! (3 ∷ []) $ fsplit3 ! $ keep ! (0 ∷ 1 ∷ 3 ∷ 4 ∷ []) $
    by ! (walk T 𝓛 L 𝓜.mem 𝓡.returns 𝓣.C 𝓣.Λ κ τ qs.0 qs.1.0 a.1.0 long a.0 z.0.4.0))))
