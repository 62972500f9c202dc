-- `to_slice`: two calls, after which the buffer follows what the second lends. Assumes `Logic`.
use Rattle.postcard_memory.proofs.Steps.{ℕ, MutBor, List, [], ◌∷◌, ◌≡◌, refl, id⊢, ‵, raw, ◌⊛◌, some, later, await, pick, tables, ftrue, flft, named, ◌$◌, ◌∵◌, !, qed, move, split, drop, join, fjoin, rewrite, done, enter, alloc_all, pass_all, free_all, look_at, look_in_at, get, get_in, sets, fld, hop, from, stop, agg, addr, and_then, no_more, returns, sub, whole, plain, yes, no, u8, heard, peeks, shows, lands_as, use1, use2, Stays, walk_of, stay_dropped, Goes-dropped, Goes-spent_slice, suffices, nothing, MutSlice, mut_slice_vals, mut_slice_Tells, fact, proved, calls_at, lasts, triple_of, framed}
use Rattle.std.proofs.Common.{◌≤◌, ◌<◌, ◌⊎◌, ◌^◌, ◌++◌, length, drop as drop_list}
use Rattle.std.proofs.raw_atomic.Walks.{leaves}
use base.Logic.{emp}
use contract.Monad.{fact_i}
use mir.MapTy.{inst_fn}
use mir.Syntax.{Args, Fn, a_type, dcons, dnil}
use denote.Builtin.{RefOf, SliceRefMutOf}
use denote.Param.{param, bounded}
use denote.RattleType.{RattleType}
use denote.Ref.{shr_vals, shr_Tells}
use denote.Signature.{named_lft}
use denote.Triple.Clauses.{Lasts}
use Rattle.std.specs.Prelude.{◌↔◌}
use Rattle.postcard_wire.specs.contracts.error.Error.{the_row as err_row}
use Rattle.postcard_wire.proofs.error.Error.TheLaws.{the_row_laws as err_laws}
use Rattle.std.specs.Result.{IsOk, OnOk, OnErr}
use Rattle.std.specs.contracts.result.Result as RS
use Rattle.postcard.specs.Buffers.{FillsFront}
use Rattle.postcard.specs.Attempt.{IsAttempt, LendsAttempt}
use Rattle.postcard_wire.specs.Spelling.{canonical, Spells}
use Rattle.postcard_shape.specs.Shape.{IsWilling}
use Rattle.postcard_ser.specs.Writing.{IsErrorOf}
use Rattle.std.specs.Prelude.{IfErr}
use Rattle.std.specs.Borrow.{name_if_ok}
use Rattle.std.proofs.Common.{IfOk}
use Rattle.std.proofs.result.Result.TheLaws.{the_row_laws as result_laws}
use Rattle.postcard.proofs.Fronts.{follows_front, follows_old, gives, shortest, fits_iff, own_error, named_error, fits, spelled, follows_such}
use base.Fml.{GName}
use types.Kit.{use0}
use denote.Array.{Array}
use denote.Follow.{follows_if, follows_so}
use denote.Param.Laws.{Laws, of_field, row_shared}
use denote.Param.Shared.{mut_slice_shared, copy_shared}
use denote.Ref.{NamedLft}
use denote.Struct.Field.{u8-field, mut_slice_field}
use denote.Struct.Laws.{u8-laws, u8-copy, mut_slice_laws}
use Rattle.postcard.specs.declared.ser.Attempt.{Attempt}
use Rattle.postcard.specs.contracts.ser.Attempt.{the_row}
use Rattle.postcard.proofs.ser.Attempt.TheLaws.{the_row_laws}
use Rattle.postcard.specs.contracts.ser.to_slice as f
use Rattle.postcard.proofs.ser.to_slice.Statement.{statement}
use Rattle.postcard.proofs.ser.to_slice.Code as code
use Rattle.postcard.specs.contracts.ser.write_front as g
use Rattle.postcard.proofs.ser.write_front.Met as g-thm
use Rattle.postcard.proofs.ser.write_front.Statement.{statement as write_front_says}
use Rattle.postcard.specs.contracts.ser.lend_front as h
use Rattle.postcard.proofs.ser.lend_front.Met as h-thm
use Rattle.postcard.proofs.ser.lend_front.Statement.{statement as lend_front_says}

byte_laws : Laws u8
byte_laws = of_field u8-field u8-laws refl (copy_shared u8-field u8-copy)

slice_laws : (a : NamedLft) → Laws (MutSlice a.mir a.lft u8)
slice_laws a = of_field (mut_slice_field a u8 tt) (mut_slice_laws a u8 tt) refl (mut_slice_shared a u8 tt (row_shared u8 byte_laws))

-- The walk, by what the functions that it calls promise.
walk : {M : Type 1} → write_front_says M → lend_front_says M → statement M
walk writes lends 𝓤 𝓛 𝓜 𝓡 wired X L gs dict sh dict2 met met2 =
    let args : Args = bounded (a_type ∷ []) (X, tt) (dcons dict (dcons dict2 dnil)) in let fn : Fn = inst_fn args code.function in
    let end = f.ended X gs dict sh dict2 in
    let stayed : Stays end.signature.params end.kept = (stay_dropped (RefOf (0 ∷ []) tt (plain (λ _. param 0 X)) (λ _. tt)) yes, (stay_dropped (SliceRefMutOf (1 ∷ []) tt (plain (λ _. u8)) (λ _. tt)) no, tt)) in
    let c = f.clauses X gs dict sh dict2 𝓛 𝓜.mem 𝓡.returns in let W = walk_of 𝓛 end stayed c in let 𝓣 = tables 𝓤 𝓛.H 𝓜 𝓡 𝓡.env in
    proved 𝓛 end stayed c 𝓜 𝓡 (Goes-dropped 𝓛 3 (RefOf (0 ∷ []) tt (plain (λ _. param 0 X)) (λ _. tt)) yes (λ κs x w. refl), (Goes-spent_slice 𝓛 3 (1 ∷ []) tt (plain (λ _. u8)), tt))
    (f.Key.name args) fn (code.unfolded 𝓤 𝓛.H 𝓜 𝓡 wired (X, tt) dict dict2)
    (λ κs. (shr_vals, (mut_slice_vals, tt))) (λ κs. (shr_Tells (named 0) κs.0 (param 0 X), (mut_slice_Tells (named 1) κs.1.0 u8, tt))) (λ κs qs bounds a _ are.
    let b = a.1.0.ref_ptr.0 in let o = a.1.0.ref_ptr.1 in let γ = a.1.0.ghost_name in let xs : List ℕ = a.1.0.now in
    let y : W.Ghost = ((κs, qs, bounds, a, (shr_vals a.0, (mut_slice_vals a.1.0, tt))), tt) in
    let κ = κs.1.0 in let q = qs.1.0 in let ℓ = named_lft 3 1 tt κs in let D : RattleType = the_row ℓ in let s = sh.shape in let ys : List ℕ = canonical (s.tree a.0.now) in
    let Own : RattleType = MutSlice (named 1) κ u8 in let Out : RattleType = RS.the_row Own err_row in
    let Begun : List ℕ → Type 0 = λ n. IsWilling s a.0.now → FillsFront ys xs n in
    let long : length xs < 2 ^ 64 = are.1.0.0.1.0 in
    let G = triple_of 𝓛 (g.signature X) (g.spec X gs dict sh dict2 𝓛 𝓜.mem 𝓡.returns) in
    let z : G.Ghost = ((κs, qs, bounds, a, (shr_vals a.0, (mut_slice_vals a.1.0, tt))), tt) in
    qed 𝓛 (raw (G.pre z) ∷ []) ∵ enter ! _ _ _ _ _ $
    alloc_all ! (λ l. pass_all ! refl ((tt, tt), ((tt, (tt, (record { fits = long }, tt))), tt)) $
    sets ! (addr ! (from ! (fld ! refl (hop ! (look_in_at ! 2 (sub ! 0 refl (whole !))) (stop !))))) refl (tt, tt) $
    sets ! (agg ! (and_then ! (get ! refl) (and_then ! (get_in ! (fld ! refl (stop !)) (sub ! 1 refl (whole !))) (no_more !)))) refl (tt, (tt, (record { fits = long }, tt))) $
    calls_at ! (framed 𝓤 𝓛.H 𝓜 𝓣) G (writes 𝓤 𝓛 𝓜 𝓡 (code.calls-postcard::ser::write_front 𝓡.env wired) X L gs dict sh dict2 met met2) z
    (and_then ! (get ! refl) (and_then ! (get ! refl) (no_more !))) (λ v.
    use1 𝓛 (later (some (λ (r : Attempt). ((‵ (flft κs.0 qs.0) ⊛ ‵ (flft κ q) ⊛ ‵ (flft κs.1.1.0 qs.1.1.0) ⊛ ‵ ftrue) ⊛ ‵ (D.own_val r (v ∷ []))) ⊛
    some (λ (ws : Lasts (g.ended X gs dict sh dict2) κs a). ‵ (lasts (g.ended X gs dict sh dict2) κs a ws) ⊛ raw (fact 𝓤 (r.all.ghost_name ≡ γ)) ⊛ raw (fact 𝓤 (IsAttempt s a.0.now ys (FillsFront ys xs) xs r)))))) (id⊢ 𝓤 _) $
    await ! tt $ pick ! (λ r. split ! $ split ! $ move ! (2 ∷ []) $ pick ! (λ ws. split ! $ drop ! $ split ! $ heard ! _ (λ same. heard ! _ (λ made.
    move ! (1 ∷ []) $ peeks ! D _ (shows 𝓛 D) r (v ∷ []) (λ is.
    lands_as ! refl refl (((the_row_laws ℓ).lawful 𝓛).typed r _ is).0 $
    -- [the struct; the tokens; the locals]
    let K = triple_of 𝓛 h.signature (h.spec 𝓛 𝓜.mem 𝓡.returns) in
    let j : K.Ghost = (((κ, tt), (q, tt), tt, (r, tt), (v ∷ [], tt)), tt) in
    move ! (1 ∷ []) $ split ! $ move ! (1 ∷ []) $ split ! $ nothing ! $ move ! (1 ∷ 0 ∷ []) $ join ! $ nothing ! $ move ! (4 ∷ 0 ∷ []) $ fjoin ! $ move ! (1 ∷ 0 ∷ []) $ join ! $
    use0 𝓛 (raw (fact 𝓤 (r.count ≤ length r.all.now))) (fact_i 𝓤 _ (emp 𝓤) made.within) $ move ! (1 ∷ 0 ∷ []) $ use2 𝓛 (raw (K.pre j)) (id⊢ 𝓤 _) $
    -- [what `lend_front` requires; the other tokens, in two; the locals]
    calls_at ! (framed 𝓤 𝓛.H 𝓜 𝓣) K (lends 𝓤 𝓛 𝓜 𝓡 (code.calls-postcard::ser::lend_front 𝓡.env wired)) j (and_then ! (get ! refl) (no_more !)) (λ v'.
    use1 𝓛 (later (some (λ (w : Out.Denot). ((‵ (flft κ q) ⊛ ‵ ftrue) ⊛ ‵ (Out.own_val w (v' ∷ []))) ⊛
    some (λ (ws : Lasts h.ended (κ, tt) (r, tt)). ‵ (lasts h.ended (κ, tt) (r, tt) ws) ⊛ ‵ (follows_if (Array u8 0) (Array u8 0) r.all.ghost_name (name_if_ok (λ x. x.ghost_name) w) (λ n. n ++ drop_list r.count r.all.now) r.all.now) ⊛
    raw (fact 𝓤 (LendsAttempt r w)))))) (id⊢ 𝓤 _) $
    await ! tt $ pick ! (λ w. split ! $ split ! $ move ! (2 ∷ []) $ pick ! (λ ws'. split ! $ drop ! $ split ! $ move ! (1 ∷ []) $ heard ! _ (λ front.
    -- [what the buffer follows; the token; the result; the other tokens, in two; the locals]
    move ! (2 ∷ []) $ peeks ! Out _ (shows 𝓛 Out) w (v' ∷ []) (λ is'.
    lands_as ! refl refl (((result_laws Own err_row (slice_laws (named_lft 3 1 tt κs)) err_laws).lawful 𝓛).typed w _ is').0 $
    returns ! (look_at ! 0 refl) $ free_all ! refl $
    -- [the result; what the buffer follows; the token; the other tokens, in two]
    rewrite ! 1 (λ (p : GName). ‵ (follows_if (Array u8 0) (Array u8 0) p (name_if_ok (λ x. x.ghost_name) w) (λ n. n ++ drop_list r.count r.all.now) r.all.now)) same refl $
    move ! (2 ∷ []) $ split ! $ move ! (1 ∷ []) $ drop ! $ move ! (0 ∷ 3 ∷ []) $ join ! $ move ! (3 ∷ 0 ∷ []) $ join ! $
    -- [the tokens; the result; what the buffer follows]
    let name = name_if_ok (λ (x : MutBor (List ℕ)). x.ghost_name) w in
    let P : List ℕ → List ℕ → Type 0 = λ x n. IsOk w → n ≡ x ++ drop_list (length ys) xs in let P₀ : List ℕ → Type 0 = λ n. OnErr w (Begun n) in
    move ! (2 ∷ []) $ use1 𝓛 (‵ (follows_so (Array u8 0) (Array u8 0) γ name P P₀)) (follows_such 𝓛 (Array u8 0) (Array u8 0) γ name (λ n. n ++ drop_list r.count r.all.now) r.all.now P P₀
    (λ x ok. follows_front s a.0.now ys (FillsFront ys xs) xs r w made front x ok) (follows_old s a.0.now ys (FillsFront ys xs) xs r w made front)) $
    use0 𝓛 (raw (fact 𝓤 (IfOk w (λ x. Spells (s.tree a.0.now) x.now)))) (fact_i 𝓤 _ (emp 𝓤) (spelled s a.0.now ys (FillsFront ys xs) xs r w made front refl)) $
    use0 𝓛 (raw (fact 𝓤 (OnOk w (s.fits a.0.now)))) (fact_i 𝓤 _ (emp 𝓤) (fits s a.0.now ys (FillsFront ys xs) xs r w made front)) $
    use0 𝓛 (raw (fact 𝓤 (IfErr w (IsErrorOf s a.0.now)))) (fact_i 𝓤 _ (emp 𝓤) (named_error s a.0.now ys (FillsFront ys xs) xs r w made front)) $
    use0 𝓛 (raw (fact 𝓤 (length ys ≤ length xs → IfErr w (s.refusal a.0.now)))) (fact_i 𝓤 _ (emp 𝓤) (own_error s a.0.now ys (FillsFront ys xs) xs r w made front)) $
    use0 𝓛 (raw (fact 𝓤 (IsWilling s a.0.now → IsOk w ↔ (length ys ≤ length xs)))) (fact_i 𝓤 _ (emp 𝓤) (fits_iff s a.0.now ys (FillsFront ys xs) xs r w made front)) $
    use0 𝓛 (raw (fact 𝓤 (IfOk w (λ x. (p : List ℕ) → Spells (s.tree a.0.now) p → (p ≡ x.now) ⊎ (length x.now < length p))))) (fact_i 𝓤 _ (emp 𝓤) (shortest s a.0.now ys (FillsFront ys xs) xs r w made front refl)) $
    use0 𝓛 (raw (fact 𝓤 (IfOk w (λ x. x.now ≡ ys)))) (fact_i 𝓤 _ (emp 𝓤) (gives s a.0.now ys (FillsFront ys xs) xs r w made front)) $
    suffices ! _ (leaves 𝓛 end stayed c y v' w (tt, (tt, tt)) (tt, (tt, tt))) $ nothing ! $ nothing ! $ fjoin ! $ nothing ! $ fjoin ! $ move ! (9 ∷ 0 ∷ 10 ∷ 8 ∷ 1 ∷ 2 ∷ 3 ∷ 4 ∷ 5 ∷ 6 ∷ 7 ∷ []) $ done !)))))))))))))

pub to_slice_spec : {M : Type 1} → statement M
to_slice_spec = walk g-thm.met h-thm.met
