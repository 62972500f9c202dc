-- `lend_front` lends the first bytes of the buffer by a call, or returns the error and ends the loan. Assumes `Logic`.
use Rattle.postcard_memory.proofs.Steps.{ℕ, MutBor, List, [], ◌∷◌, ◌≡◌, ap, refl, lit<, ‵, raw, ◌⊛◌, some, later, await, pick, tables, ftrue, flft, named, Val, ◌$◌, ◌∵◌, !, qed, move, keep, split, drop, join, fsplit, fsplit3, fjoin, fpick, rewrite, done, enter, alloc_all, pass_all, free_all, look_at, look_in_at, get, get_in, sets, fld, hop, from, stop, agg, lit, addr, and_then, no_more, of_opd, first, branches, skips, exec, at_ret, returns, returns_within, sub, whole, env, plain, no, u8, heard, peeks, shows, use1, use2, Stays, walk_of, stay_dropped, suffices, nothing, MutSlice, slice_val, mut_slice_vals, fact, proved, id⊢, w64, vint, owned, uint_Makes, lands_as, only, calls_at, lasts, triple_of, framed}
use Rattle.std.proofs.Common.{◌≤◌, ◌<◌, ◌*◌, ◌^◌, ◌++◌, length, take, drop as drop_list, subst, Ok, Err}
use Rattle.std.proofs.raw_atomic.Walks.{leaves}
use Rattle.std.proofs.VecSteps.Shapes.{after}
use Rattle.std.proofs.ResultValues.{ok_of, err_of, and_tt}
use Rattle.std.proofs.alloc.Calls.{Goes-blank}
use lib.Dec.{T}
use denote.Laws.{Typed}
use Rattle.postcard_wire.specs.declared.error.Error.{Error}
use Rattle.postcard_wire.specs.contracts.error.Error.{the_row as err_row}
use Rattle.postcard_wire.proofs.error.Error.TheLaws.{lowered as err_lowered, lowers as err_lowers, the_row_laws as err_laws}
use Rattle.postcard.proofs.Fronts.{is_false}
use Rattle.std.proofs.Flags.{never_true}
use base.Fml.{fobs, fres}
use base.Stored.{coded_list}
use contract.Monad.{fact_i}
use base.Logic.{emp}
use mir.Val.{of_list}
use types.Kit.{use0}
use types.Match.{live}
use denote.Array.{Array}
use denote.Builtin.{usize}
use denote.Triple.Clauses.{Lasts}
use denote.Follow.{follows, follows_by}
use denote.FollowSlice.{heres_id}
use denote.RattleType.{RattleType, owns}
use denote.Signature.{named_lft, types_at}
use Rattle.std.specs.contracts.result.Result as RS
use Rattle.postcard.specs.declared.ser.Attempt.{Attempt}
use Rattle.postcard.specs.contracts.ser.Attempt.{the_row}
use Rattle.postcard.proofs.ser.Attempt.TheLaws.{lowers, lowered}
use Rattle.postcard.specs.contracts.ser.lend_front as f
use Rattle.postcard.proofs.ser.lend_front.Statement.{statement}
use Rattle.postcard.proofs.ser.lend_front.Code as code
use Rattle.postcard.specs.Attempt.{LendsAttempt}
use Rattle.postcard_memory.specs.contracts.cut.front as g
use Rattle.postcard_memory.proofs.cut.front.Met as g-thm

abbrev stayed : Stays f.ended.signature.params f.ended.kept
stayed = (stay_dropped (plain (λ κs. the_row (named_lft 1 0 tt κs))) no, tt)

pub lend_front_spec : {M : Type 1} → statement M
unfolding follows_by
lend_front_spec 𝓤 𝓛 𝓜 𝓡 wired =
    let c = f.clauses 𝓛 𝓜.mem 𝓡.returns in let W = walk_of 𝓛 f.ended stayed c in let 𝓣 = tables 𝓤 𝓛.H 𝓜 𝓡 𝓡.env in
    proved 𝓛 f.ended stayed c 𝓜 𝓡 (Goes-blank 𝓛 1 (plain (λ κs. the_row (named_lft 1 0 tt κs))) no (λ κs x w. tt), tt)
    f.Key.name code.function (code.unfolded 𝓤 𝓛.H 𝓜 𝓡 wired)
    (λ κs. ((λ d. lowered d ∷ []), tt)) (λ κs. ((lowers (named_lft 1 0 tt κs)).val_is, tt)) (λ κs qs bounds a _ are.
    let κ = κs.0 in let q = qs.0 in let d : Attempt = a.0 in let b = d.all.ref_ptr.0 in let o = d.all.ref_ptr.1 in let γ = d.all.ghost_name in
    let xs : List ℕ = d.all.now in let n : ℕ = d.count in let e : Error = d.error in let ev : Val = err_lowered e in let Er : RattleType = err_row in
    let Own : RattleType = MutSlice (named 0) κ u8 in let Out : RattleType = RS.the_row Own Er in
    let y : W.Ghost = ((κs, qs, bounds, a, (lowered d ∷ [], tt)), tt) in
    qed 𝓛 (((‵ (flft κ q) ⊛ ‵ ftrue) ⊛ ‵ (owns (types_at f.ended.signature.params κs) a y.0.4)) ∷ raw (fact 𝓤 (n ≤ length xs)) ∷ []) ∵
    move ! (1 ∷ []) $ heard ! _ (λ asked. split ! $ split ! $ move ! (2 ∷ []) $ fsplit ! $ keep ! (0 ∷ 2 ∷ []) $
    fpick ! (λ vss. fsplit ! $ drop ! $ fsplit ! $ move ! (1 ∷ []) $ fsplit3 ! $ move ! (2 ∷ []) $ fsplit ! $ keep ! (0 ∷ 4 ∷ 5 ∷ []) $
    peeks ! Er _ (shows 𝓛 Er) e vss.1.1.1.0 (λ isE. let spelled : vss.1.1.1.0 ≡ ev ∷ [] = err_lowers.val_is e vss.1.1.1.0 isE in
    rewrite ! 0 (λ (vs : List Val). ‵ (Er.own_val e vs)) spelled refl $ move ! (1 ∷ 2 ∷ 0 ∷ []) $
    let ok = (subst (λ (vs : List Val). Typed Er.mir vs) spelled ((err_laws.lawful 𝓛).typed e _ isE)).0 in
    -- [the slice; the token; the error]
    let is = are.0 in
    let bytes : length xs * 1 < 2 ^ 63 = is.1.1.0.0.1.1 in let long : length xs < 2 ^ 64 = is.1.1.0.0.1.0 in
    let fits : n < 2 ^ 64 = is.1.1.1.0.1 in
    enter ! _ _ _ _ _ $ alloc_all ! (λ l. pass_all ! refl ((and_tt _ ok.0, ((tt, (record { fits = long }, tt)), (record { fits = fits }, (tt, (ok.1, tt))))), tt) $
    sets ! (of_opd ! (get_in ! (fld ! refl (stop !)) (sub ! 0 refl (whole !)))) refl (tt, (tt, (record { fits = long }, tt))) $
    sets ! (of_opd ! (get_in ! (fld ! refl (stop !)) (sub ! 1 refl (whole !)))) refl (tt, record { fits = fits }) $
    sets ! (of_opd ! (get_in ! (fld ! refl (stop !)) (sub ! 2 refl (whole !)))) refl (tt, tt) $
    sets ! (of_opd ! (get_in ! (fld ! refl (stop !)) (sub ! 3 refl (whole !)))) refl ok $
    sets ! (of_opd ! (get ! refl)) refl (tt, tt) $
    first ! $ branches ! (get ! refl)
    (λ yes'. sets ! (agg ! (and_then ! (lit ! tt) (and_then ! (get ! refl) (no_more !)))) refl (and_tt _ ok.0, (record { fits = lit< tt }, (ok.1, tt))) $
    returns_within ! (W.post y) refl (look_at ! 0 refl) $ free_all ! refl $
    fsplit3 ! $ keep ! (1 ∷ 3 ∷ 4 ∷ []) $ rewrite ! 0 (λ (l : List ℕ). ‵ (fobs γ ((coded_list u8.coded).code l))) (heres_id u8 xs) refl $
    use1 𝓛 (‵ (fres γ ((coded_list u8.coded).code xs))) (𝓛.names.obs-res γ ((coded_list u8.coded).code xs)) $
    move ! (2 ∷ []) $
    use1 𝓛 (‵ (Out.own_val (Err e) (live 1 (of_list (ev ∷ [])) ∷ []))) (err_of 𝓛 Own Er e ev) $
    let r : Out.Denot = Err e in
    suffices ! _ (leaves 𝓛 f.ended stayed c y (live 1 (of_list (ev ∷ []))) r ((tt, tt), tt) (tt, tt)) $ use0 𝓛 (raw (fact 𝓤 (LendsAttempt d r))) (fact_i 𝓤 _ (emp 𝓤) (record { front = tt; sorts = ((λ t. never_true t), λ z. absurd (subst T z yes')); error = refl })) $ nothing ! $ move ! (4 ∷ 0 ∷ []) $ join ! $ nothing ! $ nothing ! $ fjoin ! $ move ! (1 ∷ 0 ∷ 3 ∷ 4 ∷ 2 ∷ []) $ done !)
    (λ no'. skips ! $ exec ! 𝓣.C 𝓣.Λ (env (code.function).locals l) (after 6 (code.function).body) (at_ret (env (code.function).locals l) (W.post y)) $
    sets ! (addr ! (from ! (fld ! refl (hop ! (look_in_at ! 2 (sub ! 0 refl (whole !))) (stop !))))) refl (tt, tt) $
    sets ! (agg ! (and_then ! (get ! refl) (and_then ! (get_in ! (fld ! refl (stop !)) (sub ! 1 refl (whole !))) (no_more !)))) refl (tt, (tt, (record { fits = long }, tt))) $
    move ! (2 ∷ []) $ drop ! $
    -- [the slice; the token]
    peeks ! Own _ (shows 𝓛 Own) d.all vss.0 (λ isS. rewrite ! 0 (λ (vs : List Val). ‵ (Own.own_val d.all vs)) isS.0.0 refl $
    let G = triple_of 𝓛 g.signature (g.spec 𝓛 𝓜.mem 𝓡.returns) in
    let z : G.Ghost = (((κ, tt), (q, tt), tt, (d.all, (n, tt)), (mut_slice_vals d.all, (vint w64 n ∷ [], tt))), tt) in
    nothing ! $ owned ! usize _ (uint_Makes 𝓛 w64) n _ (refl, fits) $ fjoin ! $ move ! (1 ∷ 0 ∷ []) $ fjoin ! $
    nothing ! $ move ! (2 ∷ 0 ∷ []) $ join ! $ join ! $
    use0 𝓛 (raw (fact 𝓤 (n ≤ length xs))) (fact_i 𝓤 _ (emp 𝓤) asked) $ move ! (1 ∷ 0 ∷ []) $ use2 𝓛 (raw (G.pre z)) (id⊢ 𝓤 _) $
    calls_at ! (framed 𝓤 𝓛.H 𝓜 𝓣) G (g-thm.met 𝓤 𝓛 𝓜 𝓡 (code.calls-postcard_memory::cut::front 𝓡.env wired)) z (and_then ! (get ! refl) (and_then ! (get ! refl) (no_more !))) (λ v.
    let back : List ℕ = drop_list n xs in
    use1 𝓛 (later (some (λ (r : MutBor (List ℕ)). ((‵ (flft κ q) ⊛ ‵ ftrue) ⊛ ‵ (Own.own_val r (v ∷ []))) ⊛
    some (λ (ws : Lasts g.ended (κ, tt) (d.all, (n, tt))). ‵ (lasts g.ended (κ, tt) (d.all, (n, tt)) ws) ⊛ ‵ (follows (Array u8 0) (Array u8 0) γ r.ghost_name (λ w. w ++ back)) ⊛
    raw (fact 𝓤 (r.now ≡ take n xs)))))) (id⊢ 𝓤 _) $
    await ! tt $ pick ! (λ r. split ! $ split ! $ move ! (2 ∷ []) $ pick ! (λ ws. split ! $ drop ! $ split ! $ move ! (1 ∷ []) $ heard ! _ (λ gave.
    -- [what the whole follows; the tokens; the prefix]
    move ! (2 ∷ []) $ peeks ! Own _ (shows 𝓛 Own) r (v ∷ []) (λ isR.
    let fits' : length r.now < 2 ^ 64 = isR.0.1.0 in let w : Val = slice_val r.ref_ptr (length r.now) in
    lands_as ! (ap only isR.0.0) refl (tt, (tt, (record { fits = fits' }, tt))) $
    rewrite ! 0 (λ (vs : List Val). ‵ (Own.own_val r vs)) isR.0.0 refl $
    sets ! (agg ! (and_then ! (lit ! tt) (and_then ! (get ! refl) (no_more !)))) refl (tt, (record { fits = lit< tt }, ((tt, (record { fits = fits' }, tt)), tt))) $
    returns ! (look_at ! 0 refl) $ free_all ! refl $
    let out : Out.Denot = Ok r in
    use1 𝓛 (‵ (Out.own_val out (live 0 (of_list (w ∷ [])) ∷ []))) (ok_of 𝓛 Own Er r w) $
    use0 𝓛 (raw (fact 𝓤 (LendsAttempt d out))) (fact_i 𝓤 _ (emp 𝓤) (record { front = gave; sorts = ((λ _. is_false d.failed no'), λ _. refl); error = tt })) $
    -- [what is shown; the result; what the whole follows; the tokens]
    suffices ! _ (leaves 𝓛 f.ended stayed c y (live 0 (of_list (w ∷ []))) out ((tt, tt), tt) (tt, tt)) $ nothing ! $ nothing ! $ fjoin ! $ move ! (4 ∷ 0 ∷ 2 ∷ 3 ∷ 1 ∷ []) $ done !))))))))))))
