-- `from_bytes_cobs` makes three calls. The remaining bytes that the second call lends are let go. Assumes `Logic`.
use Rattle.postcard_memory.proofs.Steps.{ℕ, MutBor, List, [], ◌∷◌, ◌≡◌, ◌∙◌, ap, refl, sym, id⊢, w64, vint, ‵, raw, ◌⊛◌, some, later, await, pick, tables, ftrue, flft, fres, named, Val, ◌$◌, ◌∵◌, !, qed, move, keep, split, drop, join, fsplit, fsplit3, fjoin, fpick, rewrite, done, enter, alloc_all, pass_all, free_all, look_at, look_in_at, get, get_in, sets, fld, hop, from, stop, agg, addr, and_then, no_more, of_opd, returns, sub, whole, plain, yes, no, u8, heard, peeks, shows, use1, use2, Stays, walk_of, stay_dropped, Goes-dropped, Goes-spent_slice, suffices, nothing, MutSlice, slice_val, mut_slice_vals, mut_slice_Tells, fact, owned, uint_Makes, lands_as, only, calls_at, lasts, triple_of, framed}
use Rattle.std.proofs.Common.{◌<◌, ◌≤◌, ◌^◌, ◌++◌, length, take, drop as drop_list, subst}
use Rattle.std.proofs.raw_atomic.Walks.{proved_at, leaves}
use Rattle.std.proofs.result.Result.TheLaws.{the_row_laws as result_laws}
use Rattle.std.proofs.alloc.Global.TheLaws as heap_laws
use Rattle.std.specs.contracts.alloc.Global as Heap
use Rattle.std.specs.contracts.result.Result as RS
use Rattle.std.specs.Prelude.{⊤}
use Rattle.crc.specs.Digest.{Progress}
use Rattle.crc.specs.contracts.digest.Digest as digests
use Rattle.crc.proofs.digest.Digest.TheLaws as digest_laws
use Rattle.postcard_wire.specs.contracts.error.Error.{the_row as err_row}
use Rattle.postcard_wire.proofs.error.Error.TheLaws.{the_row_laws as err_laws}
use Rattle.postcard_cobs.specs.Groups.{before_zero}
use base.Fml.{Lft, GName, Share, fobs}
use base.Logic.{ent, emp}
use base.Stored.{coded_list}
use contract.BorrowLft.{◌⊑◌}
use contract.Monad.{fact_i}
use denote.Array.{Array}
use denote.Builtin.{usize, SliceRefMutOf}
use denote.Follow.{follows, follows_so, followed}
use denote.FollowSlice.{heres_id}
use denote.Laws.{Is}
use denote.Param.{param, copied, layout, bounded}
use denote.Param.Laws.{param_laws, copied_laws}
use denote.RattleType.{RattleType, owns}
use denote.Ref.{Bor}
use denote.Signature.{named_lft, types_at}
use denote.Slice.{ShrSlice}
use denote.Struct.Tuple.{Tuple}
use denote.Triple.Clauses.{Lasts}
use mathlib.Core.Option.{none}
use mir.MapTy.{inst_fn}
use mir.Syntax.{Fn, Args, a_type, dcons, dnil}
use mir.Val.{vstruct, of_list}
use prog.Wp.{WpFn}
use types.Kit.{use0, given, learn}
use Rattle.postcard_frame.specs.Buffer.{KeepsFromZero, HasDataOf}
use Rattle.postcard_crc.specs.Parts.{IsDecodedFrame}
use Rattle.postcard_crc.specs.InFrame.{IsReadOf}
use Rattle.postcard_crc.specs.declared.de.cobs.DecodedFrame.{DecodedFrame}
use Rattle.postcard_crc.specs.contracts.de.cobs.DecodedFrame as decoded
use Rattle.postcard_crc.proofs.de.cobs.DecodedFrame.TheLaws as decoded_laws
use Rattle.postcard_crc.specs.contracts.de.cobs.from_bytes_cobs as f
use Rattle.postcard_crc.proofs.de.cobs.from_bytes_cobs.Statement.{statement}
use Rattle.postcard_crc.proofs.de.cobs.from_bytes_cobs.Code as code
use Rattle.postcard_crc.specs.contracts.de.cobs.decode_frame as g
use Rattle.postcard_crc.proofs.de.cobs.decode_frame.Met as g-thm
use Rattle.postcard_crc.proofs.de.cobs.decode_frame.Statement.{statement as decode_frame_says}
use Rattle.postcard_memory.specs.contracts.cut.split_front as h
use Rattle.postcard_memory.proofs.cut.split_front.Met as h-thm
use Rattle.postcard_crc.specs.contracts.de.cobs.read_checked as r
use Rattle.postcard_crc.proofs.de.cobs.read_checked.Met as r-thm
use Rattle.postcard_crc.proofs.de.cobs.read_checked.Statement.{statement as read_checked_says}
use Rattle.postcard_crc.proofs.Decoding.{data_within, keeps_all}
use Rattle.postcard_frame.proofs.Follows.{ends_so}
use Rattle.postcard_frame.proofs.Values.{one, Paired, pair_in}

-- The walk, by what the functions that it calls promise.
walk : {M : Type 1} → decode_frame_says M → read_checked_says M → statement M
walk decodes reads 𝓤 𝓛 𝓜 𝓡 wired T W I LT LW LI copies Gh D Sh Ds Wh Dw Ch Dc Ih Di Dt De P met shaped width clone implements glue glue' =
    let 𝓣 = tables 𝓤 𝓛.H 𝓜 𝓡 𝓡.env in let En = f.ended T W I Gh D Sh Ds Wh Dw Ch Dc Ih Di Dt De P in
    let args : Args = bounded (a_type ∷ a_type ∷ a_type ∷ []) (T, (W, (I, tt))) (dcons D (dcons Ds (dcons Dw (dcons Dc (dcons Di (dcons Dt (dcons De dnil))))))) in let fn : Fn = inst_fn args code.function in
    let c = f.clauses T W I Gh D Sh Ds Wh Dw Ch Dc Ih Di Dt De P 𝓛 𝓜.mem 𝓡.returns in
    let heap = plain (λ _. Heap.the_row) in let slice = SliceRefMutOf (0 ∷ []) tt (plain (λ _. u8)) (λ _. tt) in let digest = plain (λ κs. digests.the_row (named_lft 4 0 tt κs) (copied 1 W) (param 2 I) Wh Ih) in
    let hs : Stays En.signature.params En.kept = (stay_dropped heap yes, (stay_dropped slice no, (stay_dropped digest no, tt))) in let V = walk_of 𝓛 En hs c in
    proved_at 𝓛 En hs c 𝓜 𝓡 (Goes-dropped 𝓛 4 heap yes (λ κs x w. refl), (Goes-spent_slice 𝓛 4 (0 ∷ []) tt (plain (λ _. u8)), (Goes-dropped 𝓛 4 digest no (λ κs x w. refl), tt)))
    (f.Key.name args) fn (code.unfolded 𝓤 𝓛.H 𝓜 𝓡 wired (T, (W, (I, tt))) D Ds Dw Dc Di Dt De) (λ y₀ are.
    let κs = y₀.0.0 in let qs = y₀.0.1 in let a = y₀.0.3 in
    let κ : Lft = κs.0 in let q : Share = qs.0 in
    let s : MutBor (List ℕ) = a.1.0 in let γ : GName = s.ghost_name in let xs : List ℕ = s.now in
    let long : length xs < 2 ^ 64 = are.1.0.0.1.0 in
    let ready = one (layout Heap.the_row) y₀.0.4.0 (((heap_laws.the_row_laws).lawful 𝓛).typed a.0 y₀.0.4.0 are.0) in let hv : Val = ready.0 in
    let ℓ = named_lft 4 0 tt κs in let Dig : RattleType = digests.the_row ℓ (copied 1 W) (param 2 I) Wh Ih in let progress : Progress = a.1.1.0 in
    let digest_ready = one (layout Dig) y₀.0.4.1.1.0 (((digest_laws.the_row_laws ℓ (copied 1 W) (param 2 I) Wh Ih (copied_laws 1 W LW) (param_laws 2 I LI)).lawful 𝓛).typed progress y₀.0.4.1.1.0 are.1.1.0) in let dv : Val = digest_ready.0 in
    let TL : Type 0 = κs.1.0 ⊑ T.lives in let WL : Type 0 = κs.1.1.0 ⊑ W.lives in let IL : Type 0 = κs.1.1.1.0 ⊑ I.lives in
    let Own : RattleType = MutSlice (named 0) κ u8 in let Shared : RattleType = ShrSlice (named 0) κ u8 in
    let Dec : RattleType = decoded.the_row (named_lft 1 0 tt (κ, tt)) in let Out : RattleType = RS.the_row (param 0 T) err_row in
    let At : List Val × (List Val × (List Val × Unit {0})) → V.Ghost = λ vss. ((κs, qs, y₀.0.2, a, vss), y₀.1) in
    let y : V.Ghost = At (hv ∷ [], (mut_slice_vals s, (dv ∷ [], tt))) in
    subst (λ (vss : List Val × (List Val × (List Val × Unit {0}))). ent 𝓤 (V.pre (At vss)) (WpFn 𝓤 𝓛.H 𝓣.C 𝓣.Λ fn (V.args (At vss)) (V.post (At vss))))
    (λ i. (sym ready.1 i, (sym (mut_slice_Tells (named 0) κ u8 s y₀.0.4.1.0 are.1.0) i, (sym digest_ready.1 i, tt)))) (
    qed 𝓛 (((‵ (flft κ q) ⊛ ‵ (flft κs.1.0 qs.1.0) ⊛ ‵ (flft κs.1.1.0 qs.1.1.0) ⊛ ‵ (flft κs.1.1.1.0 qs.1.1.1.0) ⊛ ‵ ftrue) ⊛ ‵ (owns (types_at En.signature.params κs) a y.0.4)) ∷ raw (fact 𝓤 TL) ∷ raw (fact 𝓤 WL) ∷ raw (fact 𝓤 IL) ∷ raw (fact 𝓤 (P κs)) ∷ ‵ ftrue ∷ []) ∵
    move ! (1 ∷ 2 ∷ 3 ∷ 4 ∷ []) $ heard ! TL (λ tl. heard ! WL (λ wl. heard ! IL (λ il. heard ! (P κs) (λ pk. split ! $ split ! $ move ! (2 ∷ []) $ fsplit ! $ move ! (1 ∷ []) $ fsplit3 ! $ keep ! (0 ∷ 3 ∷ 4 ∷ 5 ∷ 1 ∷ []) $
    -- [the slice; the allocator; the token of 'a; the other tokens; the digest]
    enter ! _ _ _ _ _ $ alloc_all ! (λ l. pass_all ! refl (ready.2, ((tt, (tt, (record { fits = long }, tt))), (digest_ready.2, tt))) $
    sets ! (addr ! (from ! (fld ! refl (hop ! (look_in_at ! 2 (sub ! 0 refl (whole !))) (stop !))))) refl (tt, tt) $
    sets ! (agg ! (and_then ! (get ! refl) (and_then ! (get_in ! (fld ! refl (stop !)) (sub ! 1 refl (whole !))) (no_more !)))) refl (tt, (tt, (record { fits = long }, tt))) $
    -- `decode_frame`
    let G = triple_of 𝓛 g.signature (g.spec 𝓛 𝓜.mem 𝓡.returns) in
    let z : G.Ghost = (((κ, tt), (q, tt), tt, (s, tt), (mut_slice_vals s, tt)), tt) in
    nothing ! $ move ! (1 ∷ 0 ∷ []) $ join ! $ nothing ! $ move ! (3 ∷ 0 ∷ []) $ join ! $ join ! $ nothing ! $ move ! (1 ∷ 0 ∷ []) $ use2 𝓛 (raw (G.pre z)) (id⊢ 𝓤 _) $
    calls_at ! (framed 𝓤 𝓛.H 𝓜 𝓣) G (decodes 𝓤 𝓛 𝓜 𝓡 (code.calls-postcard_crc::de::cobs::decode_frame 𝓡.env wired)) z (and_then ! (get ! refl) (no_more !)) (λ v.
    use1 𝓛 (later (some (λ (d : DecodedFrame). ((‵ (flft κ q) ⊛ ‵ ftrue) ⊛ ‵ (Dec.own_val d (v ∷ []))) ⊛
    some (λ (ws : Lasts g.ended (κ, tt) (s, tt)). ‵ (lasts g.ended (κ, tt) (s, tt) ws) ⊛ raw (fact 𝓤 (d.all.ghost_name ≡ γ)) ⊛ raw (fact 𝓤 (IsDecodedFrame xs d)))))) (id⊢ 𝓤 _) $
    await ! tt $ pick ! (λ d. split ! $ split ! $ move ! (2 ∷ []) $ pick ! (λ ws. split ! $ drop ! $ split ! $ heard ! _ (λ same. heard ! _ (λ made.
    -- [the token; the struct; the allocator; the other tokens; the digest]
    move ! (1 ∷ []) $ peeks ! Dec (Is Dec) (shows 𝓛 Dec) d (v ∷ []) (λ is.
    let spelled = (decoded_laws.lowers (named_lft 1 0 tt (κ, tt))).val_is d (v ∷ []) is in let all : List ℕ = d.all.now in let n : ℕ = d.frame_len in let front : List ℕ = take n all in let back : List ℕ = drop_list n all in
    let long₁ : length all < 2 ^ 64 = is.1.1.0.0.1.0 in let fits₁ : n < 2 ^ 64 = is.1.1.1.0.1 in let fits₂ : d.data_len < 2 ^ 64 = is.1.1.1.1.0.1 in
    lands_as ! (ap only spelled) refl (tt, ((tt, (record { fits = long₁ }, tt)), (record { fits = fits₁ }, (record { fits = fits₂ }, tt)))) $
    fpick ! (λ vss. fsplit ! $ drop ! $ fsplit ! $ move ! (1 ∷ []) $ drop ! $
    peeks ! Own (Is Own) (shows 𝓛 Own) d.all vss.0 (λ isS. rewrite ! 0 (λ (vs : List Val). ‵ (Own.own_val d.all vs)) isS.0.0 refl $
    sets ! (of_opd ! (get_in ! (fld ! refl (stop !)) (sub ! 0 refl (whole !)))) refl (tt, (tt, (record { fits = long₁ }, tt))) $
    sets ! (of_opd ! (get_in ! (fld ! refl (stop !)) (sub ! 1 refl (whole !)))) refl (tt, record { fits = fits₁ }) $
    sets ! (of_opd ! (get_in ! (fld ! refl (stop !)) (sub ! 2 refl (whole !)))) refl (tt, record { fits = fits₂ }) $
    sets ! (addr ! (from ! (fld ! refl (hop ! (look_in_at ! 4 (sub ! 0 refl (whole !))) (stop !))))) refl (tt, tt) $
    sets ! (agg ! (and_then ! (get ! refl) (and_then ! (get_in ! (fld ! refl (stop !)) (sub ! 1 refl (whole !))) (no_more !)))) refl (tt, (tt, (record { fits = long₁ }, tt))) $
    -- `split_front`
    let K = triple_of 𝓛 h.signature (h.spec 𝓛 𝓜.mem 𝓡.returns) in
    let j : K.Ghost = (((κ, tt), (q, tt), tt, (d.all, (n, tt)), (mut_slice_vals d.all, (vint w64 n ∷ [], tt))), tt) in
    nothing ! $ owned ! usize _ (uint_Makes 𝓛 w64) n _ (refl, fits₁) $ fjoin ! $ move ! (1 ∷ 0 ∷ []) $ fjoin ! $ move ! (1 ∷ 0 ∷ []) $ join ! $
    use0 𝓛 (raw (fact 𝓤 (n ≤ length all))) (fact_i 𝓤 _ (emp 𝓤) made.within.1) $ move ! (1 ∷ 0 ∷ []) $ use2 𝓛 (raw (K.pre j)) (id⊢ 𝓤 _) $
    calls_at ! (framed 𝓤 𝓛.H 𝓜 𝓣) K (h-thm.met 𝓤 𝓛 𝓜 𝓡 (code.calls-postcard_memory::cut::split_front 𝓡.env wired)) j (and_then ! (get ! refl) (and_then ! (get ! refl) (no_more !))) (λ v₂.
    use1 𝓛 (later (some (λ (p : Bor (List ℕ) × MutBor (List ℕ)). ((‵ (flft κ q) ⊛ ‵ ftrue) ⊛ ‵ ((Tuple (Shared ∷ Own ∷ [])).own_val p (v₂ ∷ []))) ⊛
    some (λ (ws : Lasts h.ended (κ, tt) (d.all, (n, tt))). ‵ (lasts h.ended (κ, tt) (d.all, (n, tt)) ws) ⊛ ‵ (follows (Array u8 0) (Array u8 0) d.all.ghost_name p.1.ghost_name (λ w. front ++ w)) ⊛
    raw (fact 𝓤 (p.0.now ≡ front)) ⊛ raw (fact 𝓤 (p.1.now ≡ back)))))) (id⊢ 𝓤 _) $
    await ! tt $ pick ! (λ p. split ! $ split ! $ move ! (2 ∷ []) $ pick ! (λ ws. split ! $ drop ! $ split ! $ move ! (1 ∷ []) $ split ! $ heard ! _ (λ front_is. heard ! _ (λ back_is.
    -- [what the whole follows; the token; the pair; the allocator; the other tokens; the digest]
    move ! (2 ∷ []) $ use1 𝓛 (some (λ (us : List Val × List Val). given (Paired 𝓛 Shared Own (v₂ ∷ []) us) (‵ (Shared.own_val p.0 us.0) ⊛ ‵ (Own.own_val p.1 us.1)))) (pair_in 𝓛 Shared Own p.0 p.1 (v₂ ∷ [])) $ pick ! (λ us. learn ! (λ e. split ! $
    peeks ! Shared (Is Shared) (shows 𝓛 Shared) p.0 us.0 (λ is₁. rewrite ! 0 (λ (vs : List Val). ‵ (Shared.own_val p.0 vs)) is₁.0.0 refl $ move ! (1 ∷ []) $
    peeks ! Own (Is Own) (shows 𝓛 Own) p.1 us.1 (λ is₂.
    let long₂ : length p.0.now < 2 ^ 64 = is₁.0.1.0 in let long₃ : length p.1.now < 2 ^ 64 = is₂.0.1.0 in
    lands_as ! (ap only (e ∙ (λ i. vstruct (of_list (is₁.0.0 i ++ (is₂.0.0 i ++ []))) ∷ []))) refl (tt, ((tt, (record { fits = long₂ }, tt)), ((tt, (record { fits = long₃ }, tt)), tt))) $
    sets ! (of_opd ! (get_in ! (fld ! refl (stop !)) (sub ! 0 refl (whole !)))) refl (tt, (tt, (record { fits = long₂ }, tt))) $
    -- The loan of the remaining bytes ends, and so the whole buffer is known.
    fsplit3 ! $ drop ! $ rewrite ! 0 (λ (m : List ℕ). ‵ (fobs p.1.ghost_name ((coded_list u8.coded).code m))) (heres_id u8 p.1.now) refl $
    use1 𝓛 (‵ (fres p.1.ghost_name ((coded_list u8.coded).code p.1.now))) (𝓛.names.obs-res p.1.ghost_name ((coded_list u8.coded).code p.1.now)) $ move ! (1 ∷ []) $ drop ! $ move ! (2 ∷ 0 ∷ []) $
    use2 𝓛 (‵ (fres d.all.ghost_name ((coded_list u8.coded).code (front ++ p.1.now)))) (followed 𝓛 (Array u8 0) (Array u8 0) (λ w. front ++ w) d.all.ghost_name p.1.ghost_name p.1.now) $
    let kept : KeepsFromZero xs (front ++ p.1.now) = subst (λ (m : List ℕ). KeepsFromZero xs (front ++ m)) (sym back_is) (keeps_all xs d made) in
    use1 𝓛 (‵ (follows_so (Array u8 0) (Array u8 0) d.all.ghost_name none (λ _ _. ⊤) (KeepsFromZero xs))) (ends_so 𝓛 (Array u8 0) d.all.ghost_name (front ++ p.1.now) (KeepsFromZero xs) kept) $
    rewrite ! 0 (λ (δ : GName). ‵ (follows_so (Array u8 0) (Array u8 0) δ none (λ _ _. ⊤) (KeepsFromZero xs))) same refl $
    -- [what the whole ends as; the prefix; the token; the allocator; the other tokens; the digest]
    sets ! (of_opd ! (get ! refl)) refl digest_ready.2 $
    -- `read_checked`
    let R = triple_of 𝓛 (r.signature T W I Gh D Sh Ds Wh Dw Ch Dc Ih Di Dt De P) (r.spec T W I Gh D Sh Ds Wh Dw Ch Dc Ih Di Dt De P 𝓛 𝓜.mem 𝓡.returns) in
    let k : R.Ghost = ((κs, qs, y₀.0.2, (a.0, (p.0, (d.data_len, (progress, tt)))), (hv ∷ [], (slice_val p.0.ref_ptr (length p.0.now) ∷ [], (vint w64 d.data_len ∷ [], (dv ∷ [], tt))))), tt) in
    let fits : d.data_len ≤ length p.0.now = subst (λ (m : List ℕ). d.data_len ≤ length m) (sym front_is) (data_within xs d made) in
    move ! (2 ∷ []) $ split ! $ move ! (1 ∷ []) $ drop ! $ move ! (0 ∷ 4 ∷ []) $ join ! $
    nothing ! $ move ! (5 ∷ 0 ∷ []) $ fjoin ! $ owned ! usize _ (uint_Makes 𝓛 w64) d.data_len _ (refl, fits₂) $ fjoin ! $ move ! (3 ∷ 0 ∷ []) $ fjoin ! $ move ! (3 ∷ 0 ∷ []) $ fjoin ! $ move ! (1 ∷ 0 ∷ []) $ join ! $
    use0 𝓛 (raw (fact 𝓤 (d.data_len ≤ length p.0.now))) (fact_i 𝓤 _ (emp 𝓤) fits) $ use0 𝓛 (raw (fact 𝓤 (P κs))) (fact_i 𝓤 _ (emp 𝓤) pk) $ join ! $
    use0 𝓛 (raw (fact 𝓤 IL)) (fact_i 𝓤 _ (emp 𝓤) il) $ join ! $ use0 𝓛 (raw (fact 𝓤 WL)) (fact_i 𝓤 _ (emp 𝓤) wl) $ join ! $
    use0 𝓛 (raw (fact 𝓤 TL)) (fact_i 𝓤 _ (emp 𝓤) tl) $ join ! $ move ! (1 ∷ 0 ∷ []) $ use2 𝓛 (raw (R.pre k)) (id⊢ 𝓤 _) $
    calls_at ! (framed 𝓤 𝓛.H 𝓜 𝓣) R (reads 𝓤 𝓛 𝓜 𝓡 (code.calls-postcard_crc::de::cobs::read_checked 𝓡.env wired) T W I LT LW LI copies Gh D Sh Ds Wh Dw Ch Dc Ih Di Dt De P met shaped width clone implements glue glue') k
    (and_then ! (get ! refl) (and_then ! (get ! refl) (and_then ! (get ! refl) (and_then ! (get ! refl) (no_more !))))) (λ u.
    let Read : Out.Denot → Type 0 = λ w. (frame : List ℕ) → HasDataOf frame p.0.now d.data_len → IsReadOf Sh.shape Wh.size progress frame w in
    use1 𝓛 (later (some (λ (w : Out.Denot). ((‵ (flft κ q) ⊛ ‵ (flft κs.1.0 qs.1.0) ⊛ ‵ (flft κs.1.1.0 qs.1.1.0) ⊛ ‵ (flft κs.1.1.1.0 qs.1.1.1.0) ⊛ ‵ ftrue) ⊛ ‵ (Out.own_val w (u ∷ []))) ⊛
    some (λ (ws : Lasts (r.ended T W I Gh D Sh Ds Wh Dw Ch Dc Ih Di Dt De P) k.0.0 k.0.3). ‵ (lasts (r.ended T W I Gh D Sh Ds Wh Dw Ch Dc Ih Di Dt De P) k.0.0 k.0.3 ws) ⊛ raw (fact 𝓤 (Read w)))))) (id⊢ 𝓤 _) $
    await ! tt $ pick ! (λ w. split ! $ split ! $ move ! (2 ∷ []) $ pick ! (λ ws. split ! $ drop ! $ heard ! (Read w) (λ read.
    -- [the tokens; the result; what the whole ends as]
    move ! (1 ∷ []) $ peeks ! Out (Is Out) (shows 𝓛 Out) w (u ∷ []) (λ is'.
    lands_as ! refl refl (((result_laws (param 0 T) err_row (param_laws 0 T LT) err_laws).lawful 𝓛).typed w (u ∷ []) is').0 $
    returns ! (look_at ! 0 refl) $ free_all ! refl $
    let F : List ℕ = before_zero xs in
    let is-read = read F (subst (λ (m : List ℕ). HasDataOf F m d.data_len) (sym front_is) made.has_data) in
    use0 𝓛 (raw (fact 𝓤 (IsReadOf Sh.shape Wh.size progress F w))) (fact_i 𝓤 _ (emp 𝓤) is-read) $
    suffices ! _ (leaves 𝓛 En hs c y u w (tt, (tt, (tt, tt))) (tt, (tt, (tt, tt)))) $ nothing ! $ nothing ! $ fjoin ! $ nothing ! $ fjoin ! $ nothing ! $ fjoin ! $ move ! (3 ∷ 0 ∷ 2 ∷ 4 ∷ 1 ∷ []) $ done !)))))))))))))))))))))))))))))

pub from_bytes_cobs_spec : {M : Type 1} → statement M
from_bytes_cobs_spec = walk g-thm.met r-thm.met
