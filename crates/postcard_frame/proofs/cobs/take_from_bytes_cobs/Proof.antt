-- `take_from_bytes_cobs`: four calls; the rest that the second lends is handed on by the last, or let go. Assumes `Logic`.
use Rattle.postcard_memory.proofs.Steps.{ℕ, MutBor, List, [], ◌∷◌, ◌≡◌, ◌∙◌, ap, refl, sym, id⊢, w64, vint, ‵, raw, ◌⊛◌, some, later, await, pick, tables, ftrue, flft, named, Val, ◌$◌, ◌∵◌, !, qed, move, keep, split, drop, join, fsplit, fsplit3, fjoin, fpick, rewrite, done, enter, alloc_all, pass_all, free_all, look_at, look_in_at, get, get_in, sets, fld, hop, from, stop, agg, addr, and_then, no_more, of_opd, returns, sub, whole, plain, yes, no, u8, heard, peeks, shows, use1, use2, Stays, walk_of, stay_dropped, Goes-dropped, Goes-spent_slice, suffices, nothing, MutSlice, slice_val, mut_slice_vals, mut_slice_Tells, fact, owned, uint_Makes, lands_as, only, calls_at, lasts, triple_of, framed}
use Rattle.std.proofs.Common.{◌+◌, ◌<◌, ◌≤◌, ◌^◌, ◌++◌, length, take, drop as drop_list, subst, IfOk}
use Rattle.std.proofs.raw_atomic.Walks.{proved_at, leaves}
use Rattle.std.proofs.result.Result.TheLaws.{the_row_laws as result_laws}
use Rattle.std.proofs.alloc.Global.TheLaws as heap_laws
use Rattle.std.specs.contracts.alloc.Global as Heap
use Rattle.std.specs.contracts.result.Result as RS
use Rattle.std.specs.Borrow.{name_if_ok}
use Rattle.std.specs.Prelude.{OnOk, OnErr}
use Rattle.postcard_wire.specs.contracts.error.Error.{the_row as err_row}
use Rattle.postcard_wire.proofs.error.Error.TheLaws.{the_row_laws as err_laws}
use Rattle.postcard_cobs.specs.Groups.{before_zero}
use base.Fml.{Lft, GName, Share}
use base.Logic.{ent, emp}
use contract.BorrowLft.{◌⊑◌}
use contract.Monad.{fact_i}
use denote.Array.{Array}
use denote.Builtin.{usize, SliceRefMutOf}
use denote.Follow.{follows, follows_if, follows_so}
use denote.Laws.{Is}
use denote.Param.{param, layout, bounded}
use denote.Param.Laws.{Laws, param_laws, of_field, row_shared}
use denote.Param.Shared.{mut_slice_shared, copy_shared}
use denote.RattleType.{RattleType, owns}
use denote.Ref.{Bor, NamedLft}
use denote.Signature.{named_lft, types_at}
use denote.Slice.{ShrSlice}
use denote.Struct.Field.{u8-field, mut_slice_field}
use denote.Struct.Laws.{u8-laws, u8-copy, mut_slice_laws}
use denote.Struct.Tuple.{Tuple, tuple_laws}
use denote.Triple.Clauses.{Lasts}
use mathlib.Core.Option.{Option}
use mir.MapTy.{inst_fn}
use mir.Syntax.{Fn, Args, a_type, dcons, dnil}
use mir.Val.{vstruct, of_list}
use prog.Wp.{WpFn}
use types.Kit.{use0, given, learn, split3}
use Rattle.postcard_frame.specs.Frame.{IsReadOf}
use Rattle.postcard_frame.specs.Buffer.{KeepsFromZero, KeepsZero, HasDataOf}
use Rattle.postcard_frame.specs.Parts.{IsDecoded, IsBeside}
use Rattle.postcard_frame.specs.declared.cobs.Decoded.{Decoded}
use Rattle.postcard_frame.specs.contracts.cobs.Decoded as decoded
use Rattle.postcard_frame.proofs.cobs.Decoded.TheLaws as decoded_laws
use Rattle.postcard_frame.specs.contracts.cobs.take_from_bytes_cobs as f
use Rattle.postcard_frame.proofs.cobs.take_from_bytes_cobs.Statement.{statement}
use Rattle.postcard_frame.proofs.cobs.take_from_bytes_cobs.Code as code
use Rattle.postcard_frame.specs.contracts.cobs.decode as g
use Rattle.postcard_frame.proofs.cobs.decode.Met as g-thm
use Rattle.postcard_frame.proofs.cobs.decode.Statement.{statement as decode_says}
use Rattle.postcard_memory.specs.contracts.cut.split_front as h
use Rattle.postcard_memory.proofs.cut.split_front.Met as h-thm
use Rattle.postcard_frame.specs.contracts.cobs.read_data as r
use Rattle.postcard_frame.proofs.cobs.read_data.Met as r-thm
use Rattle.postcard_frame.proofs.cobs.read_data.Statement.{statement as read_data_says}
use Rattle.postcard_frame.specs.contracts.cobs.beside as b
use Rattle.postcard_frame.proofs.cobs.beside.Met as b-thm
use Rattle.postcard_frame.proofs.cobs.beside.Statement.{statement as beside_says}
use Rattle.postcard_frame.proofs.Decoded.{has_data, data_within}
use Rattle.postcard_frame.proofs.Read.{of_beside, kept_ok, kept_err, remaining}
use Rattle.postcard_frame.proofs.Follows.{hands_on}
use Rattle.postcard_frame.proofs.Values.{one, Paired, pair_in}

byte_laws : Laws u8
byte_laws = of_field u8-field u8-laws refl (copy_shared u8-field u8-copy)

pair_laws : (T : RattleType) → Laws T → (a : NamedLft) → Laws (Tuple (param 0 T ∷ MutSlice a.mir a.lft u8 ∷ []))
pair_laws T L a = tuple_laws (param 0 T ∷ MutSlice a.mir a.lft u8 ∷ []) (param_laws 0 T L, (of_field (mut_slice_field a u8 tt) (mut_slice_laws a u8 tt) refl (mut_slice_shared a u8 tt (row_shared u8 byte_laws)), tt))

-- The walk, by what the functions that it calls promise.
walk : {M : Type 1} → decode_says M → read_data_says M → beside_says M → statement M
walk decodes reads joins 𝓤 𝓛 𝓜 𝓡 wired T L Gh D Sh Ds Dd P met shaped glue =
    let 𝓣 = tables 𝓤 𝓛.H 𝓜 𝓡 𝓡.env in let En = f.ended T Gh D Sh Ds Dd P in
    let args : Args = bounded (a_type ∷ []) (T, tt) (dcons D (dcons Ds (dcons Dd dnil))) in let fn : Fn = inst_fn args code.function in
    let c = f.clauses T Gh D Sh Ds Dd P 𝓛 𝓜.mem 𝓡.returns in
    let heap = plain (λ _. Heap.the_row) in let slice = SliceRefMutOf (0 ∷ []) tt (plain (λ _. u8)) (λ _. tt) in
    let hs : Stays En.signature.params En.kept = (stay_dropped heap yes, (stay_dropped slice no, tt)) in let W = walk_of 𝓛 En hs c in
    proved_at 𝓛 En hs c 𝓜 𝓡 (Goes-dropped 𝓛 2 heap yes (λ κs x w. refl), (Goes-spent_slice 𝓛 2 (0 ∷ []) tt (plain (λ _. u8)), tt))
    (f.Key.name args) fn (code.unfolded 𝓤 𝓛.H 𝓜 𝓡 wired (T, tt) D Ds Dd) (λ y₀ are.
    let κs = y₀.0.0 in let qs = y₀.0.1 in let a = y₀.0.3 in
    let κ : Lft = κs.0 in let τ : Lft = κs.1.0 in let q : Share = qs.0 in let q' : Share = qs.1.0 in
    let s : MutBor (List ℕ) = a.1.0 in let γ : GName = s.ghost_name in let xs : List ℕ = s.now in
    let long : length xs < 2 ^ 64 = are.1.0.0.1.0 in
    let ready = one (layout Heap.the_row) y₀.0.4.0 (((heap_laws.the_row_laws).lawful 𝓛).typed a.0 y₀.0.4.0 are.0) in let hv : Val = ready.0 in
    let TL : Type 0 = τ ⊑ T.lives in let Own : RattleType = MutSlice (named 0) κ u8 in let Shared : RattleType = ShrSlice (named 0) κ u8 in
    let ℓ = named_lft 1 0 tt (κ, tt) in let Dec : RattleType = decoded.the_row ℓ in let In : RattleType = RS.the_row (param 0 T) err_row in let Pair : RattleType = Tuple (param 0 T ∷ Own ∷ []) in let Out : RattleType = RS.the_row Pair err_row in
    let At : List Val × (List Val × Unit {0}) → W.Ghost = λ vss. ((κs, qs, y₀.0.2, a, vss), y₀.1) in
    let y : W.Ghost = At (hv ∷ [], (mut_slice_vals s, tt)) in
    subst (λ (vss : List Val × (List Val × Unit {0})). ent 𝓤 (W.pre (At vss)) (WpFn 𝓤 𝓛.H 𝓣.C 𝓣.Λ fn (W.args (At vss)) (W.post (At vss))))
    (λ i. (sym ready.1 i, (sym (mut_slice_Tells (named 0) κ u8 s y₀.0.4.1.0 are.1.0) i, tt))) (
    qed 𝓛 (((‵ (flft κ q) ⊛ ‵ (flft τ q') ⊛ ‵ ftrue) ⊛ ‵ (owns (types_at En.signature.params κs) a y.0.4)) ∷ raw (fact 𝓤 TL) ∷ raw (fact 𝓤 (P κs)) ∷ ‵ ftrue ∷ []) ∵
    move ! (1 ∷ 2 ∷ []) $ heard ! TL (λ tl. heard ! (P κs) (λ pk. split ! $ split3 ! $ move ! (3 ∷ []) $ fsplit3 ! $ keep ! (1 ∷ 0 ∷ 3 ∷ 4 ∷ []) $
    -- [the slice; the allocator; the tokens of 'a and T]
    enter ! _ _ _ _ _ $ alloc_all ! (λ l. pass_all ! refl (ready.2, ((tt, (tt, (record { fits = long }, tt))), tt)) $
    sets ! (addr ! (from ! (fld ! refl (hop ! (look_in_at ! 2 (sub ! 0 refl (whole !))) (stop !))))) refl (tt, tt) $
    sets ! (agg ! (and_then ! (get ! refl) (and_then ! (get_in ! (fld ! refl (stop !)) (sub ! 1 refl (whole !))) (no_more !)))) refl (tt, (tt, (record { fits = long }, tt))) $
    -- `decode`
    let G = triple_of 𝓛 g.signature (g.spec 𝓛 𝓜.mem 𝓡.returns) in
    let z : G.Ghost = (((κ, tt), (q, tt), tt, (s, tt), (mut_slice_vals s, tt)), tt) in
    nothing ! $ move ! (1 ∷ 0 ∷ []) $ join ! $ nothing ! $ move ! (3 ∷ 0 ∷ []) $ join ! $ join ! $ nothing ! $ move ! (1 ∷ 0 ∷ []) $ use2 𝓛 (raw (G.pre z)) (id⊢ 𝓤 _) $
    calls_at ! (framed 𝓤 𝓛.H 𝓜 𝓣) G (decodes 𝓤 𝓛 𝓜 𝓡 (code.calls-postcard_frame::cobs::decode 𝓡.env wired)) z (and_then ! (get ! refl) (no_more !)) (λ v.
    use1 𝓛 (later (some (λ (d : Decoded). ((‵ (flft κ q) ⊛ ‵ ftrue) ⊛ ‵ (Dec.own_val d (v ∷ []))) ⊛
    some (λ (ws : Lasts g.ended (κ, tt) (s, tt)). ‵ (lasts g.ended (κ, tt) (s, tt) ws) ⊛ raw (fact 𝓤 (d.all.ghost_name ≡ γ)) ⊛ raw (fact 𝓤 (IsDecoded xs d)))))) (id⊢ 𝓤 _) $
    await ! tt $ pick ! (λ d. split ! $ split ! $ move ! (2 ∷ []) $ pick ! (λ ws. split ! $ drop ! $ split ! $ heard ! _ (λ same. heard ! _ (λ made.
    -- [the token; the struct; the allocator; the token of T]
    move ! (1 ∷ []) $ peeks ! Dec (Is Dec) (shows 𝓛 Dec) d (v ∷ []) (λ is.
    let spelled = (decoded_laws.lowers ℓ).val_is d (v ∷ []) is in let all : List ℕ = d.all.now in let n : ℕ = d.end in let front : List ℕ = take n all in let back : List ℕ = drop_list n all in
    let long₁ : length all < 2 ^ 64 = is.1.1.0.0.1.0 in let fits₁ : n < 2 ^ 64 = is.1.1.1.0.1 in let fits₂ : d.len < 2 ^ 64 = is.1.1.1.1.0.1 in
    lands_as ! (ap only spelled) refl (tt, ((tt, (record { fits = long₁ }, tt)), (record { fits = fits₁ }, (record { fits = fits₂ }, tt)))) $
    fpick ! (λ vss. fsplit ! $ drop ! $ fsplit ! $ move ! (1 ∷ []) $ drop ! $
    peeks ! Own (Is Own) (shows 𝓛 Own) d.all vss.0 (λ isS. rewrite ! 0 (λ (vs : List Val). ‵ (Own.own_val d.all vs)) isS.0.0 refl $
    sets ! (of_opd ! (get_in ! (fld ! refl (stop !)) (sub ! 0 refl (whole !)))) refl (tt, (tt, (record { fits = long₁ }, tt))) $
    sets ! (of_opd ! (get_in ! (fld ! refl (stop !)) (sub ! 1 refl (whole !)))) refl (tt, record { fits = fits₁ }) $
    sets ! (of_opd ! (get_in ! (fld ! refl (stop !)) (sub ! 2 refl (whole !)))) refl (tt, record { fits = fits₂ }) $
    sets ! (addr ! (from ! (fld ! refl (hop ! (look_in_at ! 3 (sub ! 0 refl (whole !))) (stop !))))) refl (tt, tt) $
    sets ! (agg ! (and_then ! (get ! refl) (and_then ! (get_in ! (fld ! refl (stop !)) (sub ! 1 refl (whole !))) (no_more !)))) refl (tt, (tt, (record { fits = long₁ }, tt))) $
    -- `split_front`
    let K = triple_of 𝓛 h.signature (h.spec 𝓛 𝓜.mem 𝓡.returns) in
    let j : K.Ghost = (((κ, tt), (q, tt), tt, (d.all, (n, tt)), (mut_slice_vals d.all, (vint w64 n ∷ [], tt))), tt) in
    nothing ! $ owned ! usize _ (uint_Makes 𝓛 w64) n _ (refl, fits₁) $ fjoin ! $ move ! (1 ∷ 0 ∷ []) $ fjoin ! $ move ! (1 ∷ 0 ∷ []) $ join ! $
    use0 𝓛 (raw (fact 𝓤 (n ≤ length all))) (fact_i 𝓤 _ (emp 𝓤) made.within.1) $ move ! (1 ∷ 0 ∷ []) $ use2 𝓛 (raw (K.pre j)) (id⊢ 𝓤 _) $
    calls_at ! (framed 𝓤 𝓛.H 𝓜 𝓣) K (h-thm.met 𝓤 𝓛 𝓜 𝓡 (code.calls-postcard_memory::cut::split_front 𝓡.env wired)) j (and_then ! (get ! refl) (and_then ! (get ! refl) (no_more !))) (λ v₂.
    use1 𝓛 (later (some (λ (p : Bor (List ℕ) × MutBor (List ℕ)). ((‵ (flft κ q) ⊛ ‵ ftrue) ⊛ ‵ ((Tuple (Shared ∷ Own ∷ [])).own_val p (v₂ ∷ []))) ⊛
    some (λ (ws : Lasts h.ended (κ, tt) (d.all, (n, tt))). ‵ (lasts h.ended (κ, tt) (d.all, (n, tt)) ws) ⊛ ‵ (follows (Array u8 0) (Array u8 0) d.all.ghost_name p.1.ghost_name (λ w. front ++ w)) ⊛
    raw (fact 𝓤 (p.0.now ≡ front)) ⊛ raw (fact 𝓤 (p.1.now ≡ back)))))) (id⊢ 𝓤 _) $
    await ! tt $ pick ! (λ p. split ! $ split ! $ move ! (2 ∷ []) $ pick ! (λ ws. split ! $ drop ! $ split ! $ move ! (1 ∷ []) $ split ! $ heard ! _ (λ front_is. heard ! _ (λ back_is.
    -- [what the whole follows; the token; the pair; the allocator; the token of T]
    move ! (2 ∷ []) $ use1 𝓛 (some (λ (us : List Val × List Val). given (Paired 𝓛 Shared Own (v₂ ∷ []) us) (‵ (Shared.own_val p.0 us.0) ⊛ ‵ (Own.own_val p.1 us.1)))) (pair_in 𝓛 Shared Own p.0 p.1 (v₂ ∷ [])) $ pick ! (λ us. learn ! (λ e. split ! $
    peeks ! Shared (Is Shared) (shows 𝓛 Shared) p.0 us.0 (λ is₁. rewrite ! 0 (λ (vs : List Val). ‵ (Shared.own_val p.0 vs)) is₁.0.0 refl $ move ! (1 ∷ []) $
    peeks ! Own (Is Own) (shows 𝓛 Own) p.1 us.1 (λ is₂.
    let long₂ : length p.0.now < 2 ^ 64 = is₁.0.1.0 in let long₃ : length p.1.now < 2 ^ 64 = is₂.0.1.0 in
    lands_as ! (ap only (e ∙ (λ i. vstruct (of_list (is₁.0.0 i ++ (is₂.0.0 i ++ []))) ∷ []))) refl (tt, ((tt, (record { fits = long₂ }, tt)), ((tt, (record { fits = long₃ }, tt)), tt))) $
    sets ! (of_opd ! (get_in ! (fld ! refl (stop !)) (sub ! 0 refl (whole !)))) refl (tt, (tt, (record { fits = long₂ }, tt))) $
    sets ! (of_opd ! (get_in ! (fld ! refl (stop !)) (sub ! 1 refl (whole !)))) refl (tt, (tt, (record { fits = long₃ }, tt))) $
    rewrite ! 0 (λ (vs : List Val). ‵ (Own.own_val p.1 vs)) is₂.0.0 refl $ move ! (2 ∷ 0 ∷ []) $ join ! $ move ! (1 ∷ []) $
    -- [the front; what the whole follows and the rest; the token; the allocator; the token of T]
    -- `read_data`
    let R = triple_of 𝓛 (r.signature T) (r.spec T Gh D Sh Ds Dd P 𝓛 𝓜.mem 𝓡.returns) in
    let k : R.Ghost = (((κ, (τ, tt)), (q, (q', tt)), tt, (a.0, (p.0, (d.len, tt))), (hv ∷ [], (slice_val p.0.ref_ptr (length p.0.now) ∷ [], (vint w64 d.len ∷ [], tt)))), tt) in
    let fits : d.len ≤ length p.0.now = subst (λ (m : List ℕ). d.len ≤ length m) (sym front_is) (data_within xs d made) in
    move ! (1 ∷ 0 ∷ []) $
    move ! (2 ∷ []) $ split ! $ move ! (1 ∷ []) $ move ! (5 ∷ 0 ∷ []) $ join ! $ move ! (1 ∷ 0 ∷ []) $ join ! $
    nothing ! $ owned ! usize _ (uint_Makes 𝓛 w64) d.len _ (refl, fits₂) $ fjoin ! $ move ! (3 ∷ 0 ∷ []) $ fjoin ! $ move ! (3 ∷ 0 ∷ []) $ fjoin ! $ move ! (1 ∷ 0 ∷ []) $ join ! $
    use0 𝓛 (raw (fact 𝓤 (d.len ≤ length p.0.now))) (fact_i 𝓤 _ (emp 𝓤) fits) $ use0 𝓛 (raw (fact 𝓤 (P κs))) (fact_i 𝓤 _ (emp 𝓤) pk) $ join ! $
    use0 𝓛 (raw (fact 𝓤 TL)) (fact_i 𝓤 _ (emp 𝓤) tl) $ join ! $ move ! (1 ∷ 0 ∷ []) $ use2 𝓛 (raw (R.pre k)) (id⊢ 𝓤 _) $
    calls_at ! (framed 𝓤 𝓛.H 𝓜 𝓣) R (reads 𝓤 𝓛 𝓜 𝓡 (code.calls-postcard_frame::cobs::read_data 𝓡.env wired) T L Gh D Sh Ds Dd P met shaped glue) k
    (and_then ! (get ! refl) (and_then ! (get ! refl) (and_then ! (get ! refl) (no_more !)))) (λ u.
    let Read : In.Denot → Type 0 = λ w. (frame : List ℕ) → HasDataOf frame p.0.now d.len → IsReadOf Sh.shape (λ x. x) frame w in
    use1 𝓛 (later (some (λ (w : In.Denot). ((‵ (flft κ q) ⊛ ‵ (flft τ q') ⊛ ‵ ftrue) ⊛ ‵ (In.own_val w (u ∷ []))) ⊛
    some (λ (ws : Lasts (r.ended T Gh D Sh Ds Dd P) k.0.0 k.0.3). ‵ (lasts (r.ended T Gh D Sh Ds Dd P) k.0.0 k.0.3 ws) ⊛ raw (fact 𝓤 (Read w)))))) (id⊢ 𝓤 _) $
    await ! tt $ pick ! (λ w. split ! $ split ! $ move ! (2 ∷ []) $ pick ! (λ ws. split ! $ drop ! $ heard ! (Read w) (λ read.
    -- [the tokens; the value; what the whole follows and the rest]
    move ! (1 ∷ []) $ peeks ! In (Is In) (shows 𝓛 In) w (u ∷ []) (λ is'.
    let value = (((result_laws (param 0 T) err_row (param_laws 0 T L) err_laws).lawful 𝓛).typed w (u ∷ []) is').0 in
    lands_as ! refl refl value $ sets ! (of_opd ! (get ! refl)) refl value $
    sets ! (addr ! (from ! (fld ! refl (hop ! (look_in_at ! 7 (sub ! 0 refl (whole !))) (stop !))))) refl (tt, tt) $
    sets ! (agg ! (and_then ! (get ! refl) (and_then ! (get_in ! (fld ! refl (stop !)) (sub ! 1 refl (whole !))) (no_more !)))) refl (tt, (tt, (record { fits = long₃ }, tt))) $
    -- `beside`
    let B = triple_of 𝓛 (b.signature T) (b.spec T 𝓛 𝓜.mem 𝓡.returns) in
    let m : B.Ghost = (((κ, (τ, tt)), (q, (q', tt)), tt, (w, (p.1, tt)), (u ∷ [], (mut_slice_vals p.1, tt))), tt) in
    -- [the value; the tokens; what the whole follows and the rest]
    move ! (2 ∷ []) $ split ! $ move ! (1 ∷ []) $ nothing ! $ move ! (1 ∷ 0 ∷ []) $ join ! $ move ! (2 ∷ 0 ∷ []) $ join ! $ move ! (2 ∷ 0 ∷ []) $ join ! $
    nothing ! $ use0 𝓛 (raw (fact 𝓤 TL)) (fact_i 𝓤 _ (emp 𝓤) tl) $ join ! $ move ! (1 ∷ 0 ∷ []) $ use2 𝓛 (raw (B.pre m)) (id⊢ 𝓤 _) $
    calls_at ! (framed 𝓤 𝓛.H 𝓜 𝓣) B (joins 𝓤 𝓛 𝓜 𝓡 (code.calls-postcard_frame::cobs::beside 𝓡.env wired) T L) m (and_then ! (get ! refl) (and_then ! (get ! refl) (no_more !))) (λ u'.
    let name : Out.Denot → Option GName = λ x. name_if_ok (λ (read : T.Denot × MutBor (List ℕ)). read.1.ghost_name) x in
    use1 𝓛 (later (some (λ (x : Out.Denot). ((‵ (flft κ q) ⊛ ‵ (flft τ q') ⊛ ‵ ftrue) ⊛ ‵ (Out.own_val x (u' ∷ []))) ⊛
    some (λ (ws : Lasts (b.ended T) m.0.0 m.0.3). ‵ (lasts (b.ended T) m.0.0 m.0.3 ws) ⊛ ‵ (follows_if (Array u8 0) (Array u8 0) p.1.ghost_name (name x) (λ n. n) p.1.now) ⊛ raw (fact 𝓤 (IsBeside w p.1.now x)))))) (id⊢ 𝓤 _) $
    await ! tt $ pick ! (λ x. split ! $ split ! $ move ! (2 ∷ []) $ pick ! (λ ws. split ! $ drop ! $ split ! $ move ! (1 ∷ []) $ heard ! (IsBeside w p.1.now x) (λ beside.
    -- [what the rest follows; the tokens; the result; what the whole follows]
    move ! (2 ∷ []) $ peeks ! Out (Is Out) (shows 𝓛 Out) x (u' ∷ []) (λ is''.
    lands_as ! refl refl (((result_laws Pair err_row (pair_laws T L (record { mir = named 0; lft = κ })) err_laws).lawful 𝓛).typed x (u' ∷ []) is'').0 $
    returns ! (look_at ! 0 refl) $ free_all ! refl $
    let F : List ℕ = before_zero xs in
    let of-data = read F (subst (λ (l : List ℕ). HasDataOf F l d.len) (sym front_is) (has_data xs d made)) in
    let is-read = of_beside Sh.shape F w p.1.now x beside of-data in
    let beside' : IsBeside w back x = subst (λ (l : List ℕ). IsBeside w l x) back_is beside in
    let Ends : List ℕ → List ℕ → Type 0 = λ rest n. OnOk x (KeepsZero xs rest n) in let Stays-so : List ℕ → Type 0 = λ n. OnErr x (KeepsFromZero xs n) in
    let failed : Stays-so (front ++ p.1.now) = subst (λ (l : List ℕ). Stays-so (front ++ l)) (sym back_is) (kept_err Sh.shape xs d made x is-read) in
    -- [the result; what the rest follows; the tokens; what the whole follows]
    move ! (3 ∷ 1 ∷ []) $ use2 𝓛 (‵ (follows_so (Array u8 0) (Array u8 0) d.all.ghost_name (name x) Ends Stays-so))
    (hands_on 𝓛 (Array u8 0) (Array u8 0) d.all.ghost_name p.1.ghost_name (λ l. front ++ l) p.1.now Ends Stays-so (name x) (λ l. kept_ok Sh.shape xs d made x is-read l) failed) $
    rewrite ! 0 (λ (δ : GName). ‵ (follows_so (Array u8 0) (Array u8 0) δ (name x) Ends Stays-so)) same refl $ move ! (1 ∷ 2 ∷ 0 ∷ []) $
    -- [the result; the tokens; what the whole ends as]
    use0 𝓛 (raw (fact 𝓤 (IfOk x (λ read. read.1.now ≡ drop_list (length F + 1) xs)))) (fact_i 𝓤 _ (emp 𝓤) (remaining Sh.shape xs d made x is-read w beside')) $
    use0 𝓛 (raw (fact 𝓤 (IsReadOf Sh.shape (λ read. read.0) F x))) (fact_i 𝓤 _ (emp 𝓤) is-read) $
    suffices ! _ (leaves 𝓛 En hs c y u' x (tt, (tt, tt)) (tt, (tt, tt))) $ nothing ! $ nothing ! $ fjoin ! $ nothing ! $ fjoin ! $ move ! (4 ∷ 0 ∷ 3 ∷ 5 ∷ 1 ∷ 2 ∷ []) $ done !))))))))))))))))))))))))))))))))

pub take_from_bytes_cobs_spec : {M : Type 1} → statement M
take_from_bytes_cobs_spec = walk g-thm.met r-thm.met b-thm.met
