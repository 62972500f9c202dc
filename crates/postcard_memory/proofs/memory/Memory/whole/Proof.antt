-- `whole` makes the `&mut [u8]` again of the pointer and what is owned. Assumes `Logic`.
use Rattle.postcard_memory.proofs.Steps.{ℕ, MutBor, List, [], ◌∷◌, ◌≡◌, ◌∙◌, ap, refl, w64, ‵, raw, ◌⊛◌, tables, ftrue, flft, prop, Val, vint, ◌$◌, ◌∵◌, !, qed, move, keep, split, join, fsplit, fjoin, regoal, done, enter, alloc_all, pass_all, free_all, look_at, get, get_in, sets, sets_last, fld, stop, agg, and_then, no_more, of_opd, first, blocks, exec, at_ret, returns, sub, whole, env, plain, yes, u8, peeks, heard, shows, in_a_block, id⊢, Stays, walk_of, stay_dropped, Goes-dropped, suffices, nothing, Ptr, block_ptr, slice_val, mut_slice_at, Room, fact}
use Rattle.std.proofs.Common.{◌<◌, ◌^◌, length, arith}
use Rattle.std.proofs.VecSteps.Shapes.{after}
use Rattle.std.proofs.raw_atomic.Walks.{proved_at, leaves}
use base.Logic.{emp}
use contract.Monad.{fact_i}
use prog.Wp.{WpFn}
use types.Kit.{flt_l, use0}
use denote.Builtin.{usize, RefOf}
use denote.Ref.{shr_vals}
use denote.Opens.{unhide}
use denote.Lend.{Held}
use base.Fml.{Lft, fbor}
use base.Before.{before}
use types.Within.{bor-before}
use types.Kit.{fsplit3, use3, later, await, rewrite}
use Rattle.std.proofs.Common.{sym}
use Rattle.postcard_memory.specs.contracts.memory.life.Life as L
use denote.RattleType.{RattleType, owns}
use denote.Shadow.{pure_i}
use denote.Signature.{types_at}
use Rattle.postcard_memory.specs.declared.memory.Memory.{Memory}
use Rattle.postcard_memory.specs.Lent.{lent_bytes}
use Rattle.postcard_memory.specs.contracts.memory.Memory.{the_row}
use Rattle.postcard_memory.proofs.memory.Memory.TheLaws.{lowers}
use Rattle.postcard_memory.specs.contracts.memory.Memory.whole as f
use Rattle.postcard_memory.proofs.memory.Memory.whole.Statement.{statement}
use Rattle.postcard_memory.proofs.memory.Memory.whole.Code as code
use Rattle.postcard_memory.proofs.Parts.{words}

abbrev stayed : Stays f.ended.signature.params f.ended.kept
stayed = (stay_dropped (plain (λ _. the_row)) yes, (stay_dropped (RefOf (0 ∷ []) tt (plain (λ _. L.the_row)) (λ _. tt)) yes, (stay_dropped (plain (λ _. usize)) yes, tt)))

pub whole_spec : {M : Type 1} → statement M
whole_spec 𝓤 𝓛 𝓜 𝓡 wired =
    let c = f.clauses 𝓛 𝓜.mem 𝓡.returns in let W = walk_of 𝓛 f.ended stayed c in let 𝓣 = tables 𝓤 𝓛.H 𝓜 𝓡 𝓡.env in
    proved_at 𝓛 f.ended stayed c 𝓜 𝓡 (Goes-dropped 𝓛 1 (plain (λ _. the_row)) yes (λ κs x w. refl), (Goes-dropped 𝓛 1 (RefOf (0 ∷ []) tt (plain (λ _. L.the_row)) (λ _. tt)) yes (λ κs x w. refl), (Goes-dropped 𝓛 1 (plain (λ _. usize)) yes (λ κs x w. refl), tt)))
    f.Key.name code.function (code.unfolded 𝓤 𝓛.H 𝓜 𝓡 wired) (λ z are.
    let κs = z.0.0 in let qs = z.0.1 in let a = z.0.3 in let κ = κs.0 in let F : RattleType = the_row in
    let d : Memory = a.0 in let n : ℕ = a.1.1.0 in
    let At : List Val → List Val → List Val → W.Ghost = λ vs ls us. ((κs, qs, z.0.2, a, (vs, (ls, (us, tt)))), z.1) in
    qed 𝓛 (((‵ (flft κs.0 qs.0) ⊛ ‵ ftrue) ⊛ ‵ (owns (types_at f.ended.signature.params κs) a z.0.4)) ∷ raw (fact 𝓤 ((d.time ≡ a.1.0.now) × (n ≡ length d.items))) ∷ []) ∵
    move ! (1 ∷ []) $ heard ! _ (λ both. let asked = both.1 in split ! $ split ! $ move ! (2 ∷ []) $ fsplit3 ! $ move ! (1 ∷ []) $ fsplit ! $ keep ! (2 ∷ 4 ∷ 1 ∷ []) $
    peeks ! F _ (shows 𝓛 F) d z.0.4.0 (λ is. fsplit ! $ move ! (1 ∷ []) $
    in_a_block ! d.start (λ p. lent_bytes d.time p d.loan d.items) (id⊢ 𝓤 _) (λ b o e.
    let word : z.0.4.0 ≡ words (block_ptr b o) ∷ [] = lowers.val_is d z.0.4.0 is ∙ ap (λ (p : Ptr). words p ∷ []) e in
    regoal ! (λ (u : List Val × (List Val × List Val)). prop (WpFn 𝓤 𝓛.H 𝓣.C 𝓣.Λ code.function (W.args (At u.0 u.1.0 u.1.1)) (W.post (At u.0 u.1.0 u.1.1)))) (λ i. (word i, (are.1.0.0 i, are.1.1.0.0 i))) refl $
    let y : W.Ghost = At (words (block_ptr b o) ∷ []) (shr_vals a.1.0) (vint w64 n ∷ []) in
    keep ! (0 ∷ 2 ∷ 3 ∷ []) $
    -- [the borrow; the token of 'a; the life]
    enter ! _ _ _ _ _ $ alloc_all ! (λ l. pass_all ! refl ((tt, (tt, tt)), ((tt, tt), ((tt, record { fits = are.1.1.0.1 }), tt))) $
    sets ! (of_opd ! (get_in ! (fld ! refl (stop !)) (sub ! 0 refl (whole !)))) refl (tt, tt) $
    let fits : n < 2 ^ 64 = are.1.1.0.1 in
    first ! $ blocks ! $ sets_last ! (agg ! (and_then ! (get ! refl) (and_then ! (get ! refl) (no_more !)))) refl (tt, (tt, (record { fits = fits }, tt))) $
    exec ! 𝓣.C 𝓣.Λ (env code.Mir.locals l) (after 2 (code.function).body) (at_ret _ (W.post y)) $
    sets ! (of_opd ! (get ! refl)) refl (tt, (tt, (record { fits = fits }, tt))) $
    fsplit ! $ flt_l ! (λ most. fsplit ! $ move ! (3 ∷ []) $ unhide ! $ rewrite ! 0 (λ (t : Lft). ‵ (before κ t)) (sym both.0) refl $ move ! (0 ∷ 2 ∷ 3 ∷ []) $
    use3 𝓛 (later (‵ (fbor κ (Held u8 (length d.items) b o d.loan)) ⊛ ‵ (flft κ qs.0))) (bor-before 𝓛 κ d.time qs.0 (Held u8 (length d.items) b o d.loan)) $ await ! tt $ split ! $ move ! (2 ∷ 0 ∷ []) $ fjoin ! $
    returns ! (look_at ! 0 refl) $ free_all ! refl $ keep ! (0 ∷ 1 ∷ []) $
    let r : MutBor (List ℕ) = record { ref_ptr = (b, o); ghost_name = d.loan; now = d.items } in let v : Val = slice_val (b, o) n in
    let room : Room u8 (length d.items) = (omega arith, omega arith) in
    pure_i ! (mut_slice_at u8 r (v ∷ [])) (tt, (tt, tt)) (ap (λ (k : ℕ). slice_val (b, o) k ∷ []) asked, room) $ fjoin ! $
    -- [the result; the token of 'a]
    nothing ! $ move ! (2 ∷ 0 ∷ []) $ join ! $ nothing ! $ nothing ! $ fjoin ! $ nothing ! $ fjoin ! $ nothing ! $ fjoin ! $
    use0 𝓛 (raw (fact 𝓤 ((d.loan ≡ d.loan) × (d.items ≡ d.items)))) (fact_i 𝓤 _ (emp 𝓤) (refl, refl)) $
    suffices ! _ (leaves 𝓛 f.ended stayed c y v r (tt, (tt, (tt, tt))) (tt, (tt, (tt, tt)))) $ move ! (2 ∷ 1 ∷ 3 ∷ 0 ∷ []) $ done !))))))
