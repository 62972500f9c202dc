-- `split_front` exchanges the whole slice for its front, shared, and the rest. Assumes `Logic`.
use Rattle.postcard_memory.proofs.Steps.{ℕ, MutBor, List, [], ◌∷◌, ◌≡◌, ◌≤◌, ◌∙◌, ap, sym, refl, w64, ‵, raw, ◌⊛◌, some, later, await, pick, tables, ftrue, flft, named, vint, Val, ◌$◌, ◌∵◌, !, qed, move, keep, split, join, fsplit, fjoin, rewrite, done, enter, alloc_all, pass_all, free_all, look_at, look_in_at, get, get_in, sets, sets_last, bin, fld, hop, from, stop, agg, addr, and_then, no_more, of_opd, first, blocks, exec, at_ret, returns, sub, whole, env, plain, yes, no, u8, heard, use2, Stays, walk_of, stay_dropped, Goes-dropped, Goes-spent_slice, suffices, nothing, MutSlice, mut_slice_vals, mut_slice_Tells, slice_val, Room, uint_vals, uint_Tells, fact, proved}
use Rattle.std.proofs.Common.{◌<◌, ◌-◌, ◌*◌, ◌+◌, ◌^◌, ◌++◌, length, take, drop as drop_list, arith}
use Rattle.std.proofs.raw_atomic.Walks.{leaves}
use Rattle.std.proofs.VecSteps.Shapes.{after}
use lib.ListN.{take-append-drop, length-drop}
use base.Fml.{GName}
use base.Logic.{emp}
use borrow.Table.Elements.{at, length-take-le, at_byte}
use denote.Memory.{mem}
use contract.Monad.{fact_i}
use types.Kit.{use0, split3}
use denote.Array.{Array}
use denote.Builtin.{usize, SliceRefMutOf}
use denote.Follow.{follows}
use denote.Opens.{hide}
use denote.RattleType.{RattleType, owns}
use denote.Ref.{Bor}
use denote.Shadow.{pure_i}
use denote.Signature.{types_at}
use denote.Slice.{ShrSlice, elements_shared, shr_slice_at}
use denote.Struct.Tuple.{Tuple}
use Rattle.postcard_memory.proofs.Parts.{pair_val, pair_of}
use Rattle.postcard_memory.specs.contracts.cut.split_front as f
use Rattle.postcard_memory.proofs.cut.split_front.Statement.{statement}
use Rattle.postcard_memory.proofs.cut.split_front.Code as code
use Rattle.postcard_memory.proofs.Suffix.{lends_rest}

abbrev stayed : Stays f.ended.signature.params f.ended.kept
stayed = (stay_dropped (SliceRefMutOf (0 ∷ []) tt (plain (λ _. u8)) (λ _. tt)) no, (stay_dropped (plain (λ _. usize)) yes, tt))

pub split_front_spec : {M : Type 1} → statement M
split_front_spec 𝓤 𝓛 𝓜 𝓡 wired =
    let c = f.clauses 𝓛 𝓜.mem 𝓡.returns in let W = walk_of 𝓛 f.ended stayed c in let 𝓣 = tables 𝓤 𝓛.H 𝓜 𝓡 𝓡.env in
    proved 𝓛 f.ended stayed c 𝓜 𝓡 (Goes-spent_slice 𝓛 1 (0 ∷ []) tt (plain (λ _. u8)), (Goes-dropped 𝓛 1 (plain (λ _. usize)) yes (λ κs x w. refl), tt))
    f.Key.name code.function (code.unfolded 𝓤 𝓛.H 𝓜 𝓡 wired)
    (λ κs. (mut_slice_vals, (uint_vals w64, tt))) (λ κs. (mut_slice_Tells (named 0) κs.0 u8, (uint_Tells w64, tt))) (λ κs qs bounds a _ are.
    let κ = κs.0 in let q = qs.0 in let b = a.0.ref_ptr.0 in let o = a.0.ref_ptr.1 in let γ = a.0.ghost_name in let xs : List ℕ = a.0.now in let n : ℕ = a.1.0 in
    let bytes : length xs * 1 < 2 ^ 63 = are.0.0.1.1 in let long : length xs < 2 ^ 64 = are.0.0.1.0 in let fits : n < 2 ^ 64 = are.1.0.1 in
    let Own : RattleType = MutSlice (named 0) κ u8 in let Shared : RattleType = ShrSlice (named 0) κ u8 in let Out : RattleType = Tuple (Shared ∷ Own ∷ []) in let front : List ℕ = take n xs in let back : List ℕ = drop_list n xs in
    let y : W.Ghost = ((κs, qs, bounds, a, (mut_slice_vals a.0, (vint w64 n ∷ [], tt))), tt) in
    qed 𝓛 (((‵ (flft κ q) ⊛ ‵ ftrue) ⊛ ‵ (owns (types_at f.ended.signature.params κs) a y.0.4)) ∷ raw (fact 𝓤 (n ≤ length xs)) ∷ []) ∵
    move ! (1 ∷ []) $ heard ! _ (λ asked. split ! $ split ! $ move ! (2 ∷ []) $ fsplit ! $ keep ! (0 ∷ 2 ∷ []) $
    let len : length back ≡ length xs - n = length-drop n xs in let fits' : length xs - n < 2 ^ 64 = omega (arith, long) in
    enter ! _ _ _ _ _ $ alloc_all ! (λ l. pass_all ! refl ((tt, (tt, (record { fits = long }, tt))), ((tt, record { fits = fits }), tt)) $
    -- [the slice; the token]
    sets ! (addr ! (from ! (fld ! refl (hop ! (look_in_at ! 1 (sub ! 0 refl (whole !))) (stop !))))) refl (tt, tt) $
    sets ! (of_opd ! (get_in ! (fld ! refl (stop !)) (sub ! 1 refl (whole !)))) refl (tt, record { fits = long }) $
    sets ! (bin ! (get ! refl) (get ! refl) asked) refl (tt, record { fits = fits' }) $
    first ! $ blocks ! $
    sets ! (agg ! (and_then ! (get ! refl) (and_then ! (get ! refl) (no_more !)))) refl (tt, (tt, (record { fits = fits }, tt))) $
    sets ! (bin ! (get ! refl) (get ! refl) tt) refl (tt, tt) $
    sets ! (agg ! (and_then ! (get ! refl) (and_then ! (get ! refl) (no_more !)))) refl (tt, (tt, (record { fits = fits' }, tt))) $
    sets_last ! (agg ! (and_then ! (get ! refl) (and_then ! (get ! refl) (no_more !)))) refl (tt, ((tt, (record { fits = fits }, tt)), ((tt, (record { fits = fits' }, tt)), tt))) $
    exec ! 𝓣.C 𝓣.Λ (env code.Mir.locals l) (after 4 (code.function).body) (at_ret (env code.Mir.locals l) (W.post y)) $
    sets ! (of_opd ! (get ! refl)) refl (tt, ((tt, (record { fits = fits }, tt)), ((tt, (record { fits = fits' }, tt)), tt))) $
    let cut : length front ≡ n = length-take-le n xs asked in let room : Room u8 (length front) = (omega arith, omega arith) in let room' : Room u8 (length back) = (omega arith, omega arith) in
    let r : Bor (List ℕ) = record { ref_ptr = (b, o); now = front } in let v : Val = slice_val (b, o) n in
    let rest : ℕ → GName → MutBor (List ℕ) = λ k δ. record { ref_ptr = (b, k); ghost_name = δ; now = back } in
    let start : ℕ = at o (mem u8).size (length front) in let place : start ≡ n + o = at_byte o (length front) ∙ ap (λ (k : ℕ). k + o) cut in
    let v' : Val = slice_val (b, n + o) (length xs - n) in
    rewrite ! 0 (λ (l : List ℕ). ‵ (Own.own_val (record { ref_ptr = (b, o); ghost_name = γ; now = l }) (mut_slice_vals a.0))) (sym (take-append-drop n xs)) refl $
    use2 𝓛 (later (some (λ (δ : GName). ‵ (Own.own_val (rest start δ) (slice_val (b, start) (length back) ∷ [])) ⊛ ‵ (flft κ q) ⊛ ‵ (follows (Array u8 0) (Array u8 0) γ δ (λ w. front ++ w)) ⊛ ‵ (elements_shared u8 front b o κ))))
    (lends_rest 𝓛 (named 0) κ q b o γ front back room' (mut_slice_vals a.0)) $ await ! tt $ pick ! (λ δ. split3 ! $ move ! (2 ∷ []) $ split ! $ move ! (1 ∷ []) $
    -- [the front, shared; what the whole follows; the rest; the token]
    hide ! $ pure_i ! (shr_slice_at u8 r (v ∷ [])) (tt, (tt, tt)) (ap (λ (k : ℕ). slice_val (b, o) k ∷ []) (sym cut), room) $ fjoin ! $ move ! (2 ∷ []) $
    rewrite ! 0 (λ (k : ℕ × ℕ). ‵ (Own.own_val (rest k.0 δ) (slice_val (b, k.0) k.1 ∷ []))) (λ i. (place i, len i)) refl $ move ! (1 ∷ 0 ∷ []) $
    use2 𝓛 (‵ (Out.own_val (r, rest (n + o) δ) (pair_val v v' ∷ []))) (pair_of 𝓛 Shared Own r (rest (n + o) δ) v v') $
    returns ! (look_at ! 0 refl) $ free_all ! refl $
    -- [the result; what the whole follows; the token]
    keep ! (0 ∷ 1 ∷ 2 ∷ []) $ nothing ! $ move ! (3 ∷ 0 ∷ []) $ join ! $ nothing ! $ nothing ! $ fjoin ! $ nothing ! $ fjoin ! $
    use0 𝓛 (raw (fact 𝓤 (back ≡ back))) (fact_i 𝓤 _ (emp 𝓤) refl) $ use0 𝓛 (raw (fact 𝓤 (front ≡ front))) (fact_i 𝓤 _ (emp 𝓤) refl) $
    suffices ! _ (leaves 𝓛 f.ended stayed c y (pair_val v v') (r, rest (n + o) δ) (tt, (tt, tt)) (tt, (tt, tt))) $ move ! (3 ∷ 2 ∷ 4 ∷ 5 ∷ 0 ∷ 1 ∷ []) $ done !))))
