-- `view` shares all bytes for as long as the `&` to the `Bytes` has left. Assumes `Logic`.
-- A comment in brackets lists what the proof holds at that step, in order.
use Rattle.postcard_memory.proofs.Steps.{ℕ, List, [], ◌∷◌, ◌≡◌, ◌∙◌, ap, sym, refl, w64, w8, named, ‵, raw, ◌⊛◌, tables, ftrue, flft, Val, vint, ◌$◌, ◌∵◌, !, qed, move, keep, split, join, fsplit, fjoin, rewrite, done, enter, alloc_all, pass_all, free_all, look_at, get, through, sets, sets_last, load, fld, stop, agg, and_then, no_more, of_opd, first, blocks, exec, at_ret, returns, look_in, sub, whole, env, plain, yes, u8, peeks, heard, shows, in_a_block, id⊢, use1, Stays, walk_of, stay_dropped, Goes-dropped, suffices, nothing, uint_vals, uint_Tells, Ptr, slice_val, Room, fact, proved}
use Rattle.std.proofs.Common.{◌<◌, ◌^◌, length, arith}
use Rattle.std.proofs.VecSteps.Shapes.{after}
use Rattle.std.proofs.raw_atomic.Walks.{leaves}
use Rattle.std.specs.contracts.marker.PhantomData as marker
use base.Logic.{emp}
use base.Fml.{Fml, fsep, fhide}
use contract.Monad.{fact_i}
use mir.Val.{vptr}
use types.Kit.{use0, flt_l}
use denote.Builtin.{usize, RefOf}
use denote.Laws.{Is}
use denote.Memory.{cell_at, hidden_shr}
use denote.Opens.{unhide, hide}
use denote.Plain.{uint_row_laws}
use denote.RattleType.{RattleType, owns}
use denote.Ref.{Bor, shr_vals, shr_Tells}
use denote.Shadow.{pure_i}
use denote.SharingLaws.{shortens}
use denote.Signature.{named_lft, types_at}
use denote.Slice.{elements_shared, elements_shr_laws, shr_slice_at}
use denote.Steps.{looks, shuts}
use denote.Struct.Field.{shr_ref_field}
use denote.Struct.Lending.{lent_out}
use Rattle.postcard_memory.specs.declared.bytes.Bytes.{Bytes}
use Rattle.postcard_memory.specs.Read.{read_shared}
use Rattle.postcard_memory.specs.contracts.bytes.Bytes as C
use Rattle.postcard_memory.specs.contracts.bytes.Bytes.view as f
use Rattle.postcard_memory.proofs.bytes.Bytes.view.Statement.{statement}
use Rattle.postcard_memory.proofs.bytes.Bytes.view.Code as code
use Rattle.postcard_memory.proofs.BytesParts.{words}
use Rattle.postcard_memory.proofs.BytesParts.{Words, as_words, opened}

abbrev stayed : Stays f.ended.signature.params f.ended.kept
stayed = (stay_dropped (RefOf (0 ∷ []) tt (plain (λ κs. C.the_row (named_lft 2 1 tt κs))) (λ _. tt)) yes, (stay_dropped (plain (λ _. usize)) yes, tt))

pub view_spec : {M : Type 1} → statement M
view_spec 𝓤 𝓛 𝓜 𝓡 wired =
    let c = f.clauses 𝓛 𝓜.mem 𝓡.returns in let W = walk_of 𝓛 f.ended stayed c in let 𝓣 = tables 𝓤 𝓛.H 𝓜 𝓡 𝓡.env in
    proved 𝓛 f.ended stayed c 𝓜 𝓡 (Goes-dropped 𝓛 2 (RefOf (0 ∷ []) tt (plain (λ κs. C.the_row (named_lft 2 1 tt κs))) (λ _. tt)) yes (λ κs x w. refl), (Goes-dropped 𝓛 2 (plain (λ _. usize)) yes (λ κs x w. refl), tt))
    f.Key.name code.function (code.unfolded 𝓤 𝓛.H 𝓜 𝓡 wired)
    (λ κs. (shr_vals, (uint_vals w64, tt))) (λ κs. (shr_Tells (named 0) κs.0 (C.the_row (named_lft 2 1 tt κs)), (uint_Tells w64, tt))) (λ κs qs bounds a _ are.
    let ℓ = named_lft 2 1 tt κs in let D : RattleType = Words ℓ in let κ = κs.0 in let β = κs.1.0 in
    let b = a.0.ref_ptr.0 in let o = a.0.ref_ptr.1 in let d : Bytes = a.0.now in let xs : List ℕ = d.items in let n : ℕ = a.1.0 in let fits : n < 2 ^ 64 = are.1.0.1 in
    let others : Fml = fsep (flft β qs.1.0) ftrue in
    let y : W.Ghost = ((κs, qs, bounds, a, (vptr b o ∷ [], (vint w64 n ∷ [], tt))), tt) in
    qed 𝓛 (((‵ (flft κ qs.0) ⊛ ‵ others) ⊛ ‵ (owns (types_at f.ended.signature.params κs) a y.0.4)) ∷ raw (fact 𝓤 (n ≡ length xs)) ∷ []) ∵
    move ! (1 ∷ []) $ heard ! _ (λ asked. split ! $ split ! $ move ! (2 ∷ []) $ fsplit ! $ fsplit ! $ keep ! (1 ∷ 3 ∷ 4 ∷ []) $
    enter ! _ _ _ _ _ $ alloc_all ! (λ l. pass_all ! refl ((tt, tt), ((tt, record { fits = fits }), tt)) $
    -- [self; its token; the others]
    use1 𝓛 (‵ (hidden_shr D κ (d.start, (tt, tt)) b o) ⊛ ‵ (fhide (read_shared β d.start xs κ)))
    (lent_out 𝓛 (C.struct ℓ) (C.the_codes (marker.the_row (shr_ref_field ℓ u8 tt).row).coded) (C.the_heap β) (C.the_lent β) κ d b o) $ split ! $ move ! (1 ∷ []) $ unhide ! $
    in_a_block ! d.start (λ p. read_shared β p xs κ) (id⊢ 𝓤 _) (λ b' o' e.
    fsplit ! $ flt_l ! (λ most.
    use1 𝓛 (‵ (elements_shared u8 xs b' o' κ)) (shortens 𝓛 (elements_shared u8 xs b' o') (elements_shr_laws u8 (uint_row_laws w8) xs b' o') β κ bounds.0) $ move ! (1 ∷ 2 ∷ []) $
    looks ! tt D (opened ℓ 𝓛) (d.start, (tt, tt)) b o (λ q vs. move ! (1 ∷ []) $ peeks ! D (Is D) (shows 𝓛 D) (d.start, (tt, tt)) vs (λ is.
    let ev = as_words ℓ d.start vs is ∙ ap (λ (p : Ptr). words p ∷ []) e in
    rewrite ! 1 (λ (ws : List Val). ‵ (cell_at q D.mir ws b o)) ev refl $ first ! $ blocks ! $
    sets ! (of_opd ! (load ! (through ! refl (fld ! refl (stop !))) (look_in ! 1 (sub ! 0 refl (whole !))))) refl (tt, tt) $
    sets_last ! (agg ! (and_then ! (get ! refl) (and_then ! (get ! refl) (no_more !)))) refl (tt, (tt, (record { fits = fits }, tt))) $
    exec ! 𝓣.C 𝓣.Λ (env code.Mir.locals l) (after 1 (code.function).body) (at_ret _ (W.post y)) $
    sets ! (of_opd ! (get ! refl)) refl (tt, (tt, (record { fits = fits }, tt))) $
    rewrite ! 1 (λ (ws : List Val). ‵ (cell_at q D.mir ws b o)) (sym ev) refl $ move ! (1 ∷ 0 ∷ 2 ∷ []) $ shuts ! tt D q (d.start, (tt, tt)) vs b o $
    -- [the token; self's fields; the bytes; the others]
    let r : Bor (List ℕ) = record { ref_ptr = (b', o'); now = xs } in let v : Val = slice_val (b', o') n in
    let room : Room u8 (length xs) = (omega arith, omega arith) in
    move ! (0 ∷ 3 ∷ []) $ join ! $ move ! (2 ∷ []) $ hide ! $ pure_i ! (shr_slice_at u8 r (v ∷ [])) (tt, (tt, tt)) (ap (λ (k : ℕ). slice_val (b', o') k ∷ []) asked, room) $ fjoin ! $
    use0 𝓛 (raw (fact 𝓤 (xs ≡ xs))) (fact_i 𝓤 _ (emp 𝓤) refl) $ nothing ! $ nothing ! $ fjoin ! $ nothing ! $ fjoin ! $
    returns ! (look_at ! 0 refl) $ free_all ! refl $ keep ! (3 ∷ 0 ∷ 2 ∷ 1 ∷ []) $ suffices ! _ (leaves 𝓛 f.ended stayed c y v r (tt, (tt, tt)) (tt, (tt, tt))) $ done !)))))))
