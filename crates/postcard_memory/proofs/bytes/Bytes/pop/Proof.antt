-- `pop` reads the byte at the pointer, and moves the pointer one byte forward. Assumes `Logic`.
use Rattle.postcard_memory.proofs.Steps.{ℕ, List, [], ◌∷◌, ◌≡◌, ◌∙◌, ap, sym, refl, w8, named, ‵, raw, ◌⊛◌, tables, ftrue, flft, Val, vint, ◌$◌, ◌∵◌, !, qed, move, keep, split, drop, join, fsplit, fsplit3, fjoin, rewrite, done, enter, alloc_all, pass_all, free_all, look_at, get, through, sets, sets_last, load, fld, stop, bin, lit, look, of_opd, first, blocks, assigns, exec, at_ret, returns, look_in, sub, whole, env, plain, u8, full_share, opens, closes, peeks, heard, shows, in_a_block, id⊢, use1, Stays, walk_of, stay_ref, Goes-ref, suffices, nothing, mut_vals, mut_Tells, Ptr, block_ptr, fact, proved}
use Rattle.std.proofs.Common.{◌+◌, ◌<◌, ◌^◌, length, get_or, drop as drop_list, arith}
use Rattle.std.proofs.VecSteps.Shapes.{after}
use Rattle.std.proofs.raw_atomic.Walks.{leaves}
use lib.ListN.{length-drop}
use base.Logic.{emp}
use base.Fml.{fhide}
use contract.Monad.{fact_i}
use types.Kit.{use0, split3, fjoin3, flt_l, flt_i}
use types.Part.{store_in}
use denote.Copied.{uint_Copied}
use denote.Laws.{Is}
use denote.Memory.{cell_at, hidden_shr}
use denote.Opens.{twice_dup}
use denote.Plain.{uint_row_laws, uint_Makes}
use denote.RattleType.{RattleType, owns}
use denote.SharingLaws.{contraction}
use denote.Steps.{looks, shuts, owned}
use denote.Signature.{named_lft, types_at}
use denote.Slice.{elements_shared, elements_shr_laws}
use Rattle.postcard_memory.specs.declared.bytes.Bytes.{Bytes}
use Rattle.postcard_memory.specs.Read.{read_bytes}
use Rattle.postcard_memory.specs.contracts.bytes.Bytes.{the_row}
use Rattle.postcard_memory.proofs.bytes.Bytes.TheLaws.{lowers}
use Rattle.postcard_memory.specs.contracts.bytes.Bytes.pop as f
use Rattle.postcard_memory.proofs.bytes.Bytes.pop.Statement.{statement}
use Rattle.postcard_memory.proofs.bytes.Bytes.pop.Code as code
use Rattle.postcard_memory.proofs.BytesParts.{words}
use Rattle.postcard_memory.proofs.BytesParts.{Words, made}
use Rattle.postcard_memory.proofs.Reading.{back, first_of, first_and_rest}

abbrev stayed : Stays f.ended.signature.params f.ended.kept
stayed = (stay_ref (0 ∷ []) tt (plain (λ κs. the_row (named_lft 2 1 tt κs))), tt)

pub pop_spec : {M : Type 1} → statement M
pop_spec 𝓤 𝓛 𝓜 𝓡 wired =
    let c = f.clauses 𝓛 𝓜.mem 𝓡.returns in let W = walk_of 𝓛 f.ended stayed c in let 𝓣 = tables 𝓤 𝓛.H 𝓜 𝓡 𝓡.env in
    proved 𝓛 f.ended stayed c 𝓜 𝓡 (Goes-ref 𝓛 2 0 tt (plain (λ κs. the_row (named_lft 2 1 tt κs))), tt)
    f.Key.name code.function (code.unfolded 𝓤 𝓛.H 𝓜 𝓡 wired)
    (λ κs. (mut_vals, tt)) (λ κs. (mut_Tells (named 0) κs.0 (the_row (named_lft 2 1 tt κs)), tt)) (λ κs qs bounds a _ are.
    let ℓ = named_lft 2 1 tt κs in let R : RattleType = the_row ℓ in let κ = κs.1.0 in
    let b = a.0.ref_ptr.0 in let o = a.0.ref_ptr.1 in let d : Bytes = a.0.now in let xs : List ℕ = d.items in
    let y : W.Ghost = ((κs, qs, bounds, a, (mut_vals a.0, tt)), tt) in
    qed 𝓛 (((‵ (flft κs.0 qs.0) ⊛ ‵ (flft κ qs.1.0) ⊛ ‵ ftrue) ⊛ ‵ (owns (types_at f.ended.signature.params κs) a y.0.4)) ∷ raw (fact 𝓤 (0 < length xs)) ∷ []) ∵
    move ! (1 ∷ []) $ heard ! _ (λ asked. split ! $ split3 ! $ move ! (3 ∷ []) $ fsplit ! $ keep ! (0 ∷ 2 ∷ 3 ∷ []) $
    enter ! _ _ _ _ _ $ alloc_all ! (λ l. pass_all ! refl ((tt, tt), tt) $
    -- [self; its token; the token of 'de]
    fsplit3 ! $ move ! (1 ∷ 2 ∷ 3 ∷ []) $ opens ! tt R b o (λ us. move ! (1 ∷ []) $ peeks ! R _ (shows 𝓛 R) d us (λ is. fsplit ! $ move ! (1 ∷ []) $
    in_a_block ! d.start (λ p. read_bytes κ p xs) (id⊢ 𝓤 _) (λ b' o' e. fsplit ! $ flt_l ! (λ most.
    let Heap = elements_shared u8 xs b' o' in
    twice_dup ! Heap (λ κ'. contraction 𝓛 Heap (elements_shr_laws u8 (uint_row_laws w8) xs b' o') κ') κ $
    let word = (lowers ℓ).val_is d us is ∙ ap (λ (p : Ptr). words p ∷ []) e in
    let Cell = λ (ws : List Val). ‵ (cell_at full_share R.mir ws b o) in
    -- [the bytes; the bytes; the fields; the struct's cell; self's borrow, in three; its equation; the token of 'de]
    rewrite ! 3 Cell word refl $
    sets ! (of_opd ! (load ! (through ! refl (fld ! refl (stop !))) (look_in ! 3 (sub ! 0 refl (whole !))))) refl (tt, tt) $
    first ! $ blocks ! $ sets_last ! (bin ! (get ! refl) (lit ! tt) tt) refl (tt, tt) $
    exec ! 𝓣.C 𝓣.Λ (env code.Mir.locals l) (after 2 (code.function).body) (at_ret (env code.Mir.locals l) (W.post y)) $
    assigns ! (of_opd ! (get ! refl)) (through ! refl (fld ! refl (stop !))) (store_in ! 3 (sub ! 0 refl (whole !)) (tt, tt)) $
    let x : ℕ = get_or xs 0 0 in let p' : Ptr = block_ptr b' (1 + o') in let rest : List ℕ = drop_list 1 xs in
    let d' : Bytes = record { start = p'; mark = d.mark; items = rest } in
    use1 𝓛 (‵ (hidden_shr u8 κ x b' o')) (first_of 𝓛 xs b' o' κ asked) $ move ! (0 ∷ 8 ∷ []) $
    -- [the first byte; the token of 'de; the bytes; the fields; the struct's cell; self's borrow, in three; its equation]
    looks ! tt u8 (uint_Copied 𝓛 w8).opens x b' o' (λ q vs. move ! (1 ∷ []) $ peeks ! u8 (Is u8) (shows 𝓛 u8) x vs (λ held.
    let Byte = λ (ws : List Val). ‵ (cell_at q u8.mir ws b' o') in
    rewrite ! 1 Byte held.0 refl $ first ! $ blocks ! $
    sets_last ! (of_opd ! (load ! (through ! refl (stop !)) (look ! 1 refl))) refl (tt, record { fits = held.1 }) $
    exec ! 𝓣.C 𝓣.Λ (env code.Mir.locals l) (after 4 (code.function).body) (at_ret (env code.Mir.locals l) (W.post y)) $
    sets ! (of_opd ! (get ! refl)) refl (tt, record { fits = held.1 }) $
    rewrite ! 1 Byte (sym held.0) refl $ move ! (1 ∷ 0 ∷ 2 ∷ []) $ shuts ! tt u8 q x vs b' o' $ move ! (1 ∷ []) $ drop ! $
    -- [the token of 'de; the bytes; the fields; the struct's cell; self's borrow, in three; its equation]
    move ! (1 ∷ []) $ use1 𝓛 (‵ (fhide (elements_shared u8 rest b' (1 + o') κ))) (back 𝓛 xs b' o' κ 1 asked) $
    flt_i ! (length rest) (2 ^ 63) (omega (arith, length-drop 1 xs)) $ fjoin ! $ move ! (2 ∷ []) $ drop ! $
    use0 𝓛 (‵ ((Words ℓ).own_val (p', (tt, tt)) (words p' ∷ []))) (made ℓ 𝓛 p') $ fjoin ! $
    -- [self; the token of 'de; the struct's cell; self's borrow, in three; its equation]
    move ! (2 ∷ 0 ∷ 3 ∷ 4 ∷ 5 ∷ []) $ closes ! tt R d' (words p' ∷ []) b o $
    -- [self's borrow; its token; the token of 'de; self's equation]
    returns ! (look_at ! 0 refl) $ free_all ! refl $ keep ! (4 ∷ 0 ∷ 1 ∷ 2 ∷ 3 ∷ []) $
    owned ! u8 _ (uint_Makes 𝓛 w8) x _ (refl, held.1) $ move ! (1 ∷ 2 ∷ 3 ∷ 4 ∷ 5 ∷ 0 ∷ []) $ fjoin3 ! $
    nothing ! $ move ! (1 ∷ 0 ∷ []) $ fjoin ! $ nothing ! $ move ! (3 ∷ 0 ∷ []) $ join ! $ move ! (2 ∷ 0 ∷ []) $ join ! $
    use0 𝓛 (raw (fact 𝓤 (xs ≡ x ∷ rest))) (fact_i 𝓤 _ (emp 𝓤) (first_and_rest xs asked)) $
    suffices ! _ (leaves 𝓛 f.ended stayed c y (vint w8 x) x (d', tt) (tt, tt)) $ move ! (1 ∷ 2 ∷ 3 ∷ 0 ∷ []) $ done !)))))))))
