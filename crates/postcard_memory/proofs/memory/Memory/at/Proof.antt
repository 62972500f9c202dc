-- `at` lends one byte, for as long as the `&mut` to the `Memory` has left. Assumes `Logic`.
use Rattle.postcard_memory.proofs.Steps.{ℕ, MutBor, List, [], ◌∷◌, ◌≡◌, ◌∙◌, ap, sym, refl, w64, named, ‵, raw, ◌⊛◌, some, later, await, pick, tables, ftrue, flft, Val, vint, ◌$◌, ◌∵◌, !, qed, move, keep, split, join, fsplit, fsplit3, fjoin, rewrite, done, enter, alloc_all, pass_all, free_all, look_at, get, through, sets, sets_last, load, fld, stop, bin, addr, of_opd, first, blocks, exec, at_ret, returns, look_in, sub, whole, env, plain, yes, no, u8, full_share, opens, closes, peeks, heard, shows, in_a_block, id⊢, Stays, walk_of, stay_dropped, Goes-dropped, suffices, nothing, mut_vals, mut_Tells, uint_vals, uint_Tells, Ptr, MutRef, fact, proved}
use Rattle.std.proofs.Common.{get_or, set, ◌+◌, ◌<◌, ◌^◌, length}
use Rattle.std.proofs.VecSteps.Shapes.{after}
use Rattle.std.proofs.raw_atomic.Walks.{leaves}
use base.Logic.{emp}
use mir.Val.{vptr}
use base.Fml.{GName, fobs}
use contract.Monad.{fact_i}
use types.Kit.{use0, split3, flt_l, flt_i}
use denote.Builtin.{usize, RefMutOf, RefOf}
use denote.Ref.{shr_vals, shr_Tells}
use denote.Opens.{unhide}
use base.Fml.{Lft}
use base.Before.{before}
use types.Kit.{group, use1}
use Rattle.postcard_memory.specs.contracts.memory.life.Life as L
use denote.Follow.{follows}
use denote.Memory.{cell_at}
use denote.RattleType.{RattleType, owns}
use denote.Signature.{types_at}
use denote.Triple.Walked.{Goes-spent_ref}
use Rattle.postcard_memory.specs.declared.memory.Memory.{Memory}
use Rattle.postcard_memory.specs.Lent.{lent_bytes}
use Rattle.postcard_memory.specs.contracts.memory.Memory.{the_row}
use Rattle.postcard_memory.proofs.memory.Memory.TheLaws.{lowers}
use Rattle.postcard_memory.specs.contracts.memory.Memory.at as f
use Rattle.postcard_memory.proofs.memory.Memory.at.Statement.{statement}
use Rattle.postcard_memory.proofs.memory.Memory.at.Code as code
use Rattle.postcard_memory.proofs.Parts.{words}
use Rattle.postcard_memory.proofs.Lending.{lends_byte, with_items, byte_ref}

abbrev stayed : Stays f.ended.signature.params f.ended.kept
stayed = (stay_dropped (RefMutOf (0 ∷ []) tt (plain (λ _. the_row)) (λ _. tt)) no, (stay_dropped (RefOf (0 ∷ []) tt (plain (λ _. L.the_row)) (λ _. tt)) yes, (stay_dropped (plain (λ _. usize)) yes, tt)))

pub at_spec : {M : Type 1} → statement M
at_spec 𝓤 𝓛 𝓜 𝓡 wired =
    let c = f.clauses 𝓛 𝓜.mem 𝓡.returns in let W = walk_of 𝓛 f.ended stayed c in let 𝓣 = tables 𝓤 𝓛.H 𝓜 𝓡 𝓡.env in
    proved 𝓛 f.ended stayed c 𝓜 𝓡 (Goes-spent_ref 𝓛 1 (0 ∷ []) tt (plain (λ _. the_row)), (Goes-dropped 𝓛 1 (RefOf (0 ∷ []) tt (plain (λ _. L.the_row)) (λ _. tt)) yes (λ κs x w. refl), (Goes-dropped 𝓛 1 (plain (λ _. usize)) yes (λ κs x w. refl), tt)))
    f.Key.name code.function (code.unfolded 𝓤 𝓛.H 𝓜 𝓡 wired)
    (λ κs. (mut_vals, (shr_vals, (uint_vals w64, tt)))) (λ κs. (mut_Tells (named 0) κs.0 the_row, (shr_Tells (named 0) κs.0 L.the_row, (uint_Tells w64, tt)))) (λ κs qs bounds a _ are.
    let R : RattleType = the_row in let κ = κs.0 in
    let b = a.0.ref_ptr.0 in let o = a.0.ref_ptr.1 in let γ = a.0.ghost_name in let d : Memory = a.0.now in let xs : List ℕ = d.items in let n : ℕ = a.1.1.0 in let fits : n < 2 ^ 64 = are.1.1.0.1 in
    let y : W.Ghost = ((κs, qs, bounds, a, (mut_vals a.0, (shr_vals a.1.0, (vint w64 n ∷ [], tt)))), tt) in
    qed 𝓛 (((‵ (flft κ qs.0) ⊛ ‵ ftrue) ⊛ ‵ (owns (types_at f.ended.signature.params κs) a y.0.4)) ∷ raw (fact 𝓤 ((d.time ≡ a.1.0.now) × (n < length xs))) ∷ []) ∵
    move ! (1 ∷ []) $ heard ! _ (λ both. let asked = both.1 in split ! $ split ! $ move ! (2 ∷ []) $ fsplit3 ! $ move ! (1 ∷ []) $ fsplit ! $ keep ! (2 ∷ 4 ∷ 1 ∷ []) $
    enter ! _ _ _ _ _ $ alloc_all ! (λ l. pass_all ! refl ((tt, tt), ((tt, tt), ((tt, record { fits = fits }), tt))) $
    -- [self; its token; the token of 'a]
    fsplit3 ! $ move ! (1 ∷ 2 ∷ 3 ∷ []) $ opens ! tt R b o (λ us. move ! (1 ∷ []) $ peeks ! R _ (shows 𝓛 R) d us (λ is. fsplit ! $ move ! (1 ∷ []) $
    in_a_block ! d.start (λ p. lent_bytes d.time p d.loan xs) (id⊢ 𝓤 _) (λ b' o' e. fsplit ! $ flt_l ! (λ most. flt_i ! (length xs) (2 ^ 63) most $ fjoin ! $
    let word = lowers.val_is d us is ∙ ap (λ (p : Ptr). words p ∷ []) e in
    let Cell = λ (ws : List Val). ‵ (cell_at full_share R.mir ws b o) in
    -- [the bytes; the fields; the struct's cell; self's borrow, in three; its equation; the token of 'a]
    rewrite ! 2 Cell word refl $
    first ! $ blocks ! $
    sets ! (of_opd ! (load ! (through ! refl (fld ! refl (stop !))) (look_in ! 2 (sub ! 0 refl (whole !))))) refl (tt, tt) $
    sets ! (bin ! (get ! refl) (get ! refl) tt) refl (tt, tt) $ sets_last ! (addr ! (through ! refl (stop !))) refl (tt, tt) $
    exec ! 𝓣.C 𝓣.Λ (env code.Mir.locals l) (after 1 (code.function).body) (at_ret _ (W.post y)) $
    sets ! (of_opd ! (get ! refl)) refl (tt, tt) $
    rewrite ! 2 Cell (sym word) refl $ rewrite ! 0 (λ (p : Ptr). ‵ (lent_bytes d.time p d.loan xs)) (sym e) refl $
    move ! (1 ∷ 0 ∷ []) $ fjoin ! $ move ! (1 ∷ 0 ∷ []) $ closes ! tt R d us b o $
    -- [self's borrow; its token; its equation; the token of 'a]
    let At : Ptr → Memory = λ p. record d { start = p } in
    rewrite ! 0 (λ (p : Ptr). ‵ (fobs γ (R.coded.code (At p)))) e refl $ move ! (4 ∷ []) $ unhide ! $ rewrite ! 0 (λ (t : Lft). ‵ (before κ t)) (sym both.0) refl $ move ! (1 ∷ 2 ∷ 3 ∷ 0 ∷ []) $ group ! 4 $
    let x : ℕ = get_or xs n 0 in
    use1 𝓛 (later (some (λ (δ : GName). ‵ ((MutRef (named 0) κ u8).own_val (byte_ref 𝓛 b o b' o' d n x δ) (vptr b' (n + o') ∷ [])) ⊛ ‵ (flft κ qs.0) ⊛ ‵ (follows R u8 γ δ (λ w. with_items 𝓛 b o b' o' d (set xs n w))))))
    (lends_byte 𝓛 b o b' o' d n x asked refl κ qs.0 γ) $ await ! tt $ pick ! (λ δ. split3 ! $
    -- [the byte's loan; the token; what self follows; self's equation; the token of 'a]
    let r : MutBor ℕ = byte_ref 𝓛 b o b' o' d n x δ in let v : Val = vptr b' (n + o') in
    rewrite ! 2 (λ (p : Ptr). ‵ (follows R u8 γ δ (λ (w : ℕ). record { start = p; time = d.time; loan = d.loan; items = set xs n w }))) (sym e) refl $
    returns ! (look_at ! 0 refl) $ free_all ! refl $ keep ! (0 ∷ 1 ∷ 2 ∷ []) $
    nothing ! $ move ! (2 ∷ 0 ∷ []) $ join ! $ nothing ! $ nothing ! $ fjoin ! $ nothing ! $ fjoin ! $ nothing ! $ fjoin ! $
    use0 𝓛 (raw (fact 𝓤 (x ≡ get_or xs n 0))) (fact_i 𝓤 _ (emp 𝓤) refl) $
    suffices ! _ (leaves 𝓛 f.ended stayed c y v r (tt, (tt, (tt, tt))) (tt, (tt, (tt, tt)))) $ move ! (2 ∷ 1 ∷ 3 ∷ 4 ∷ 0 ∷ []) $ done !))))))))
