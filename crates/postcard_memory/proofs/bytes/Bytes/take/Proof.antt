-- `take` moves the pointer n bytes forward, and shares the bytes that it passes. Assumes `Logic`.
use Rattle.postcard_memory.proofs.Steps.{ℕ, List, [], ◌∷◌, ◌≡◌, ◌∙◌, ◌≤◌, ap, sym, refl, w64, w8, named, ‵, raw, ◌⊛◌, tables, ftrue, flft, Val, vint, ◌$◌, ◌∵◌, !, qed, move, keep, split, drop, join, fsplit, fsplit3, fjoin, rewrite, done, enter, alloc_all, pass_all, free_all, look_at, get, through, sets, sets_last, load, fld, stop, agg, bin, and_then, no_more, of_opd, first, blocks, assigns, exec, at_ret, returns, look_in, sub, whole, env, plain, yes, u8, full_share, opens, closes, peeks, heard, shows, in_a_block, id⊢, use1, Stays, walk_of, stay_dropped, stay_ref, Goes-dropped, Goes-ref, suffices, nothing, mut_vals, mut_Tells, uint_vals, uint_Tells, Ptr, block_ptr, slice_val, Room, fact, proved}
use Rattle.std.proofs.Common.{◌+◌, ◌<◌, ◌^◌, length, take, drop as drop_list, arith}
use Rattle.std.proofs.VecSteps.Shapes.{after}
use Rattle.std.proofs.raw_atomic.Walks.{leaves}
use lib.ListN.{length-drop}
use base.Logic.{emp}
use base.Fml.{fhide}
use borrow.Table.Elements.{length-take-le}
use contract.Monad.{fact_i}
use types.Kit.{use0, split3, fjoin3, flt_l, flt_i}
use types.Part.{store_in}
use denote.Builtin.{usize}
use denote.Memory.{cell_at}
use denote.Opens.{twice_dup}
use denote.Plain.{uint_row_laws}
use denote.RattleType.{RattleType, owns}
use denote.Ref.{Bor}
use denote.Shadow.{pure_i}
use denote.SharingLaws.{contraction}
use denote.Signature.{named_lft, types_at}
use denote.Slice.{elements_shared, elements_shr_laws, shr_slice_at}
use Rattle.postcard_memory.specs.declared.bytes.Bytes.{Bytes}
use Rattle.postcard_memory.specs.Read.{read_bytes}
use Rattle.postcard_memory.specs.contracts.bytes.Bytes.{the_row}
use Rattle.postcard_memory.proofs.bytes.Bytes.TheLaws.{lowers}
use Rattle.postcard_memory.specs.contracts.bytes.Bytes.take as f
use Rattle.postcard_memory.proofs.bytes.Bytes.take.Statement.{statement}
use Rattle.postcard_memory.proofs.bytes.Bytes.take.Code as code
use Rattle.postcard_memory.proofs.BytesParts.{words}
use Rattle.postcard_memory.proofs.BytesParts.{Words, made}
use Rattle.postcard_memory.proofs.Reading.{front, back}

abbrev stayed : Stays f.ended.signature.params f.ended.kept
stayed = (stay_ref (0 ∷ []) tt (plain (λ κs. the_row (named_lft 2 1 tt κs))), (stay_dropped (plain (λ _. usize)) yes, tt))

pub take_spec : {M : Type 1} → statement M
take_spec 𝓤 𝓛 𝓜 𝓡 wired =
    let c = f.clauses 𝓛 𝓜.mem 𝓡.returns in let W = walk_of 𝓛 f.ended stayed c in let 𝓣 = tables 𝓤 𝓛.H 𝓜 𝓡 𝓡.env in
    proved 𝓛 f.ended stayed c 𝓜 𝓡 (Goes-ref 𝓛 2 0 tt (plain (λ κs. the_row (named_lft 2 1 tt κs))), (Goes-dropped 𝓛 2 (plain (λ _. usize)) yes (λ κs x w. refl), tt))
    f.Key.name code.function (code.unfolded 𝓤 𝓛.H 𝓜 𝓡 wired)
    (λ κs. (mut_vals, (uint_vals w64, tt))) (λ κs. (mut_Tells (named 0) κs.0 (the_row (named_lft 2 1 tt κs)), (uint_Tells w64, tt))) (λ κs qs bounds a _ are.
    let ℓ = named_lft 2 1 tt κs in let R : RattleType = the_row ℓ in let κ = κs.1.0 in
    let b = a.0.ref_ptr.0 in let o = a.0.ref_ptr.1 in let d : Bytes = a.0.now in let xs : List ℕ = d.items in let n : ℕ = a.1.0 in let fits : n < 2 ^ 64 = are.1.0.1 in
    let y : W.Ghost = ((κs, qs, bounds, a, (mut_vals a.0, (vint w64 n ∷ [], tt))), tt) in
    qed 𝓛 (((‵ (flft κs.0 qs.0) ⊛ ‵ (flft κ qs.1.0) ⊛ ‵ ftrue) ⊛ ‵ (owns (types_at f.ended.signature.params κs) a y.0.4)) ∷ raw (fact 𝓤 (n ≤ length xs)) ∷ []) ∵
    move ! (1 ∷ []) $ heard ! _ (λ asked. split ! $ split3 ! $ move ! (3 ∷ []) $ fsplit ! $ keep ! (0 ∷ 2 ∷ 3 ∷ []) $
    enter ! _ _ _ _ _ $ alloc_all ! (λ l. pass_all ! refl ((tt, tt), ((tt, record { fits = fits }), tt)) $
    -- [self; its token; the token of 'de]
    fsplit3 ! $ move ! (1 ∷ 2 ∷ 3 ∷ []) $ opens ! tt R b o (λ us. move ! (1 ∷ []) $ peeks ! R _ (shows 𝓛 R) d us (λ is. fsplit ! $ move ! (1 ∷ []) $
    in_a_block ! d.start (λ p. read_bytes κ p xs) (id⊢ 𝓤 _) (λ b' o' e. fsplit ! $ flt_l ! (λ most.
    let Heap = elements_shared u8 xs b' o' in
    twice_dup ! Heap (λ κ'. contraction 𝓛 Heap (elements_shr_laws u8 (uint_row_laws w8) xs b' o') κ') κ $
    let word = (lowers ℓ).val_is d us is ∙ ap (λ (p : Ptr). words p ∷ []) e in
    let Cell = λ (ws : List Val). ‵ (cell_at full_share R.mir ws b o) in
    -- [the bytes; the bytes; the fields; the struct's cell; self's borrow, in three; its equation; the token of 'de]
    rewrite ! 3 Cell word refl $
    sets ! (of_opd ! (load ! (through ! refl (fld ! refl (stop !))) (look_in ! 3 (sub ! 0 refl (whole !))))) refl (tt, tt) $
    first ! $ blocks ! $ sets_last ! (bin ! (get ! refl) (get ! refl) tt) refl (tt, tt) $
    exec ! 𝓣.C 𝓣.Λ (env code.Mir.locals l) (after 2 (code.function).body) (at_ret (env code.Mir.locals l) (W.post y)) $
    assigns ! (of_opd ! (get ! refl)) (through ! refl (fld ! refl (stop !))) (store_in ! 3 (sub ! 0 refl (whole !)) (tt, tt)) $
    first ! $ blocks ! $
    sets_last ! (agg ! (and_then ! (get ! refl) (and_then ! (get ! refl) (no_more !)))) refl (tt, (tt, (record { fits = fits }, tt))) $
    exec ! 𝓣.C 𝓣.Λ (env code.Mir.locals l) (after 4 (code.function).body) (at_ret (env code.Mir.locals l) (W.post y)) $
    sets ! (of_opd ! (get ! refl)) refl (tt, (tt, (record { fits = fits }, tt))) $
    let p' : Ptr = block_ptr b' (n + o') in let rest : List ℕ = drop_list n xs in let taken : List ℕ = take n xs in
    let d' : Bytes = record { start = p'; mark = d.mark; items = rest } in
    let r : Bor (List ℕ) = record { ref_ptr = (b', o'); now = taken } in let v : Val = slice_val (b', o') n in
    let cut : length taken ≡ n = length-take-le n xs asked in let room : Room u8 (length taken) = (omega arith, omega arith) in
    -- the front is the result
    use1 𝓛 (‵ (fhide (elements_shared u8 taken b' o' κ))) (front 𝓛 xs b' o' κ n) $
    pure_i ! (shr_slice_at u8 r (v ∷ [])) (tt, (tt, tt)) (ap (λ (k : ℕ). slice_val (b', o') k ∷ []) (sym cut), room) $ fjoin ! $
    -- the rest is self's
    move ! (1 ∷ 2 ∷ 3 ∷ []) $ use1 𝓛 (‵ (fhide (elements_shared u8 rest b' (n + o') κ))) (back 𝓛 xs b' o' κ n asked) $
    flt_i ! (length rest) (2 ^ 63) (omega (arith, length-drop n xs)) $ fjoin ! $ move ! (1 ∷ []) $ drop ! $
    use0 𝓛 (‵ ((Words ℓ).own_val (p', (tt, tt)) (words p' ∷ []))) (made ℓ 𝓛 p') $ move ! (0 ∷ 1 ∷ []) $ fjoin ! $
    -- [self; the struct's cell; the result; self's borrow, in three; its equation; the token of 'de]
    move ! (1 ∷ 0 ∷ 3 ∷ 4 ∷ 5 ∷ []) $ closes ! tt R d' (words p' ∷ []) b o $
    -- [self's borrow; its token; the result; its equation; the token of 'de]
    returns ! (look_at ! 0 refl) $ free_all ! refl $ keep ! (4 ∷ 0 ∷ 1 ∷ 2 ∷ 5 ∷ 3 ∷ []) $ fjoin3 ! $
    nothing ! $ nothing ! $ fjoin ! $ move ! (1 ∷ 0 ∷ []) $ fjoin ! $ nothing ! $ move ! (3 ∷ 0 ∷ []) $ join ! $ move ! (2 ∷ 0 ∷ []) $ join ! $
    use0 𝓛 (raw (fact 𝓤 (rest ≡ rest))) (fact_i 𝓤 _ (emp 𝓤) refl) $ use0 𝓛 (raw (fact 𝓤 (taken ≡ taken))) (fact_i 𝓤 _ (emp 𝓤) refl) $
    suffices ! _ (leaves 𝓛 f.ended stayed c y v r (d', (tt, tt)) (tt, (tt, tt))) $ move ! (2 ∷ 3 ∷ 4 ∷ 0 ∷ 1 ∷ []) $ done !)))))))
