use Rattle.std.proofs.Common.{◌≡◌, ℕ, List, [], ◌∷◌, refl, sym, subst}
use mir.Syntax.{a_type, a_number, dcons, dnil, named}
use mir.Val.{Val, vptr}
use mir.MapTy.{inst_fn}
use prog.Wp.{WpFn}
use base.Logic.{SProp, ent, emp, id⊢}
use base.Fml.{Lft, GName, Share, ftrue, flft}
use types.Logic.{Logic, sem}
use types.Kit.{‵, raw, ◌⊛◌, some, later, ◌$◌, ◌∵◌, !, qed, by, move, keep, drop, split, split3}
use types.Kit.{join, fsplit, fsplit3, fjoin, pick, fpick, fpack, use0, use1, use2, await, done}
use types.Run.{of_opd, addr, stop, no_more, and_then, returns, enter}
use types.ByLocal.{alloc_all, pass_all, free_all, look_at, get, through, sets, lands_as}
use contract.Running.{tables}
use contract.Monad.{fact, fact_i}
use denote.Exit.{yes, no}
use denote.RattleType.{RattleType, owns}
use denote.Builtin.{u8, RefMutOf, SliceRefOf}
use denote.Param.{param, number, bounded}
use denote.Signature.{plain, types_at}
use denote.Triple.Spec.{triple_of}
use denote.Triple.Call.{calls_at}
use denote.Triple.Walked.{Stays, stay_dropped, walk_of, Goes-dropped, Goes-spent_ref}
use Rattle.std.proofs.raw_atomic.Walks.{proved_at, leaves}
use seplogic.Ra.Ura.{Ura}
use mathlib.Core.Option.{none}
use denote.Slice.{ShrSlice, shr_slice_Lawful}
use denote.Follow.{follows_so, such_by, follows_by}
use denote.Laws.{Is, shows}
use denote.Param.{layout}
use denote.Param.Laws.{Laws, of_field, param_laws}
use denote.Param.Shared.{copy_shared}
use denote.Ref.{Bor, NamedLft, mut_Tells}
use denote.Signature.{named_lft}
use denote.Struct.Field.{shr_slice_field}
use denote.Struct.Laws.{u8-copy, shr_slice_laws, shr_slice_copy}
use denote.Steps.{nothing, heard, peeks}
use denote.Triple.Clauses.{Lasts, lasts}
use denote.Triple.Table.{framed}
use contract.BorrowLft.{◌⊑◌}
use contract.Lifetimes.{Lfts}
use denote.Triple.Entry.{Args}
use prog.Memory as mem
use Rattle.std.specs.Prelude.{⊤, ◌<◌, ◌^◌}
use lib.Dec.{T as Holds}
use mir.Syntax.{Ty}
use mir.Val.{WT, has_ty}
use denote.Laws.{Typed}
use Rattle.std.specs.contracts.alloc.Global as Heap
use Rattle.std.proofs.alloc.Global.TheLaws as heap_laws
use Rattle.postcard_accumulator.specs.State.{State}
use Rattle.postcard_accumulator.specs.Values.{IsTaken, IsReadOf, IsOwn, IsFed}
use Rattle.postcard_accumulator.specs.declared.answers.FeedResult.{FeedResult}
use Rattle.postcard_accumulator.specs.contracts.answers.FeedResult as fed
use Rattle.postcard_accumulator.proofs.answers.FeedResult.TheLaws as fed_laws
use Rattle.postcard_de.specs.contracts.deserialize.Deserialize.TheBound as bound
use Rattle.postcard_accumulator.specs.contracts.accumulator.CobsAccumulator.take_in as first
use Rattle.postcard_accumulator.proofs.accumulator.CobsAccumulator.take_in.Met as first_met
use Rattle.postcard_accumulator.proofs.accumulator.CobsAccumulator.take_in.Statement.{statement as take_in_says}
use Rattle.postcard_accumulator.specs.contracts.accumulator.read as second
use Rattle.postcard_accumulator.proofs.accumulator.read.Met as second_met
use Rattle.postcard_accumulator.proofs.accumulator.read.Statement.{statement as read_says}
use Rattle.postcard_accumulator.specs.contracts.accumulator.CobsAccumulator as acc
use Rattle.postcard_accumulator.specs.contracts.accumulator.CobsAccumulator.feed_ref.{ended}
use Rattle.postcard_accumulator.specs.contracts.accumulator.CobsAccumulator.feed_ref.{clauses}
use Rattle.postcard_accumulator.specs.contracts.accumulator.CobsAccumulator.feed_ref.Key.{name as #self}
use Rattle.postcard_accumulator.proofs.accumulator.CobsAccumulator.feed_ref.Statement.{statement}
use Rattle.postcard_accumulator.proofs.accumulator.CobsAccumulator.feed_ref.Code as code

one : (τ : Ty) (vs : List Val) → Typed (τ ∷ []) vs → (v : Val) × (vs ≡ v ∷ [])
    × (Holds (has_ty τ v) × WT v)
one τ [] t = absurd t
one τ (v ∷ []) t = (v, refl, t.0)
one τ (v ∷ w ∷ vs) t = absurd t.1

-- The data of a frame, as a type.
data_laws : (a : NamedLft) → Laws (ShrSlice a.mir a.lft u8)
data_laws a = of_field (shr_slice_field a u8 tt) (shr_slice_laws a u8 tt) refl
    (copy_shared (shr_slice_field a u8 tt) (shr_slice_copy a u8 tt u8-copy.shr_laws))

module _ {M : Type 1} {𝓤 : Ura M} (𝓛 : Logic 𝓤) (R : RattleType) (γ : GName)
    (P Q : R.Denot → Type 0) where
  -- What is known of a lender's value after the loan may be weakened.
  weaker : ((v : R.Denot) → P v → Q v)
      → ent 𝓤 (sem 𝓛 (follows_so R R γ none (λ _ _. ⊤) P))
      (sem 𝓛 (follows_so R R γ none (λ _ _. ⊤) Q))
  unfolding such_by
  weaker f = qed 𝓛 (‵ (follows_so R R γ none (λ _ _. ⊤) P) ∷ []) ∵ fpick ! (λ s.
      fpack ! ((s : (R.Denot → R.Denot) × R.Denot) × ((w : R.Denot) → ⊤) × Q s.1)
      (λ s. follows_by R.Denot R.Denot R.coded.code R.coded.code γ none s.0.0 s.0.1)
      (s.0, s.1, f s.0.1 s.2) $ done !)

-- The walk, by what the functions that it calls promise.
walk : {M : Type 1} → take_in_says M → read_says M → statement M
walk takes reads 𝓤 𝓛 𝓜 𝓡 wired N T fits L Gh D Sh Ds Dd P met shaped glue =
    let H = 𝓛.H in let 𝓣 = tables 𝓤 H 𝓜 𝓡 𝓡.env in let N' : RattleType = number N in
    let Row : RattleType = acc.the_row (param 0 N') in let En = ended N' T Gh D Sh Ds Dd P in
    let inst = bounded (a_number ∷ a_type ∷ []) (N', (T, tt))
    (dcons D (dcons Ds (dcons Dd dnil))) in let fn = inst_fn inst code.function in
    let c = clauses N' T Gh D Sh Ds Dd P 𝓛 𝓜.mem 𝓡.returns in
    let self = RefMutOf (0 ∷ []) tt (plain (λ _. Row)) (λ _. tt) in let heap =
    plain (λ _. Heap.the_row) in let slice =
    SliceRefOf (1 ∷ []) tt (plain (λ _. u8)) (λ _. tt) in
    let hs : Stays En.signature.params En.kept =
    (stay_dropped self no, (stay_dropped heap yes, (stay_dropped slice yes, tt))) in
    proved_at 𝓛 En hs c 𝓜 𝓡 (
      Goes-spent_ref 𝓛 4 (0 ∷ []) tt (plain (λ _. Row)),
      (
        Goes-dropped 𝓛 4 heap yes (λ κs x f. refl),
        (Goes-dropped 𝓛 4 slice yes (λ κs x f. refl), tt),
      ),
    )
    (#self inst) fn (code.unfolded 𝓤 H 𝓜 𝓡 wired (N', (T, tt)) D Ds Dd)
    (λ y₀ are. let κs = y₀.0.0 in let qs = y₀.0.1 in let a = y₀.0.3 in
    let b : ℕ = a.0.ref_ptr.0 in let o : ℕ = a.0.ref_ptr.1 in let γ : GName = a.0.ghost_name in
    let κ : Lft = κs.0 in let α : Lft = κs.1.0 in let ν : Lft = κs.1.1.0 in let τ : Lft =
    κs.1.1.1.0 in
    let q0 : Share = qs.0 in let q1 : Share = qs.1.0 in let q2 : Share = qs.1.1.0 in
    let q3 : Share = qs.1.1.1.0 in
    let Sl : RattleType = slice.row κs in
    let goth = one (layout Heap.the_row) y₀.0.4.1.0
    (((heap_laws.the_row_laws).lawful 𝓛).typed a.1.0 y₀.0.4.1.0 are.1.0) in
    let gotw = one (layout Sl) y₀.0.4.1.1.0
    ((shr_slice_Lawful 𝓛 (named 1) α u8).typed a.1.1.0 y₀.0.4.1.1.0 are.1.1.0) in
    let h : Val = goth.0 in let w : Val = gotw.0 in
    let At : List Val × (List Val × (List Val × Unit {0})) → (walk_of 𝓛 En hs c).Ghost =
    λ vss. ((κs, qs, y₀.0.2, a, vss), y₀.1) in
    let y : (walk_of 𝓛 En hs c).Ghost = At (vptr b o ∷ [], (h ∷ [], (w ∷ [], tt))) in let Post : Val
    → SProp 𝓤 = (walk_of 𝓛 En hs c).post y in
    let NL : Type 0 = ν ⊑ N'.lives in let TL : Type 0 = τ ⊑ T.lives in let SZ : Type 0 =
    mem.size (layout Row) < 2 ^ 63 in
    subst (λ (vss : List Val × (List Val × (List Val × Unit {0}))). ent 𝓤
    ((walk_of 𝓛 En hs c).pre (At vss))
    (WpFn 𝓤 H 𝓣.C 𝓣.Λ fn ((walk_of 𝓛 En hs c).args (At vss))
    ((walk_of 𝓛 En hs c).post (At vss))))
    (λ i. (
      sym (mut_Tells (named 0) κ Row a.0 y₀.0.4.0 are.0) i,
      (sym goth.1 i, (sym gotw.1 i, tt)),
    )) (
    qed 𝓛 (((‵ (flft κ q0) ⊛ ‵ (flft α q1) ⊛ ‵ (flft ν q2) ⊛ ‵ (flft τ q3) ⊛ ‵ ftrue)
    ⊛ ‵ (owns (types_at En.signature.params κs) a y.0.4)) ∷ raw (fact 𝓤 NL) ∷ raw
    (fact 𝓤 TL) ∷ raw (fact 𝓤 SZ) ∷ raw (fact 𝓤 (P κs)) ∷ ‵ ftrue ∷ []) ∵
    move ! (1 ∷ 2 ∷ 3 ∷ 4 ∷ []) $
    heard ! NL (λ nl. heard ! TL (λ tl. heard ! SZ (λ sz. heard ! (P κs) (λ pk.
    split ! $ split3 ! $ move ! (2 ∷ []) $ split3 ! $ move ! (5 ∷ []) $ fsplit3 ! $
    move ! (2 ∷ []) $ fsplit ! $ keep ! (2 ∷ 0 ∷ 3 ∷ 7 ∷ 8 ∷ 4 ∷ 5 ∷ []) $
    -- [self; input; alloc; the tokens of 'de, 'a, N and T]
    enter ! 𝓣.C 𝓣.Λ fn (vptr b o ∷ h ∷ w ∷ []) Post $
    alloc_all ! (λ l. pass_all ! refl ((tt, tt), (goth.2, (gotw.2, tt))) $
    sets ! (addr ! (through ! refl (stop !))) refl (tt, tt) $
    -- What the first call requires.
    let G = triple_of 𝓛 (first.signature N') (first.spec N' 𝓛 𝓜.mem 𝓡.returns) in
    let κs₁ : Lfts 3 = (κ, (α, (ν, tt))) in let a₁ : Args (first.signature N') κs₁ =
    (a.0, (a.1.1.0, tt)) in
    let z : G.Ghost = ((κs₁, (q0, (q1, (q2, tt))), tt, a₁, (vptr b o ∷ [], (w ∷ [], tt))), tt) in
    nothing ! $ move ! (2 ∷ 0 ∷ []) $ join ! $ move ! (1 ∷ 0 ∷ []) $ join ! $
    nothing ! $ move ! (5 ∷ 0 ∷ []) $ join ! $ move ! (4 ∷ 0 ∷ []) $ join ! $ move ! (3 ∷ 0 ∷ []) $
    join ! $ join ! $
    nothing ! $ use0 𝓛 (raw (fact 𝓤 SZ)) (fact_i 𝓤 SZ (emp 𝓤) sz) $ join ! $
    use0 𝓛 (raw (fact 𝓤 NL)) (fact_i 𝓤 NL (emp 𝓤) nl) $ join ! $ move ! (1 ∷ 0 ∷ []) $
    use2 𝓛 (raw (G.pre z)) (id⊢ 𝓤 _) $
    calls_at ! (framed 𝓤 𝓛.H 𝓜 𝓣) G
    (takes 𝓤 𝓛 𝓜 𝓡
    (code.calls-postcard_accumulator::accumulator::CobsAccumulator::take_in 𝓡.env wired) N fits)
    z
    (and_then ! (get ! refl) (and_then ! (get ! refl) (no_more !))) (λ v.
    let Data : RattleType = ShrSlice (named 0) κ u8 in
    let Tk : RattleType = fed.the_row (named_lft 3 1 tt κs₁) Data in
    let Known : FeedResult (Bor (List ℕ)) → Type 0 = λ t. (after : State) × IsTaken N a.0.now a.1.1.0.now t after in
    use1 𝓛 (later (some (λ (t : FeedResult (Bor (List ℕ))).
    ((‵ (flft κ q0) ⊛ ‵ (flft α q1) ⊛ ‵ (flft ν q2) ⊛ ‵ ftrue) ⊛ ‵ (Tk.own_val t (v ∷ []))) ⊛
    some (λ (ws : Lasts (first.ended N') κs₁ a₁). ‵ (lasts (first.ended N') κs₁ a₁ ws)
    ⊛ raw (fact 𝓤 (Known t))
    ⊛ ‵ (follows_so Row Row γ none (λ _ _. ⊤) (IsTaken N a.0.now a.1.1.0.now t)))))) (id⊢ 𝓤 _) $
    await ! tt $ pick ! (λ t. split ! $ split ! $ move ! (2 ∷ []) $
    pick ! (λ ws. split3 ! $ drop ! $ heard ! (Known t) (λ known.
    -- [what follows; the tokens; what was taken; alloc; the token of T]
    move ! (2 ∷ []) $ peeks ! Tk (Is Tk) (shows 𝓛 Tk) t (v ∷ [])
    (λ is-t. let good = ((fed_laws.the_row_laws (named_lft 3 1 tt κs₁) Data
    (data_laws (named_lft 3 0 tt κs₁))).lawful 𝓛).typed t (v ∷ []) is-t in
    lands_as ! refl refl good.0 $
    sets ! (of_opd ! (get ! refl)) refl good.0 $
    -- What the second call requires.
    let P₂ : Lfts 3 → Type 0 = λ κs'. κs'.1.0 ≡ κ in
    let G₂ = triple_of 𝓛 (second.signature T) (second.spec T Gh D Sh Ds Dd P₂ 𝓛 𝓜.mem 𝓡.returns) in
    let κs₂ : Lfts 3 = (α, (κ, (τ, tt))) in let a₂ : Args (second.signature T) κs₂ =
    (a.1.0, (t, tt)) in
    let z₂ : G₂.Ghost = ((κs₂, (q1, (q0, (q3, tt))), tt, a₂, (h ∷ [], (v ∷ [], tt))), tt) in
    move ! (2 ∷ []) $ split3 ! $ move ! (2 ∷ []) $ split ! $ nothing ! $ move ! (5 ∷ 0 ∷ []) $
    join ! $ move ! (6 ∷ 0 ∷ []) $ join ! $
    move ! (6 ∷ 2 ∷ []) $ join ! $ move ! (3 ∷ 0 ∷ []) $ join ! $ move ! (3 ∷ 0 ∷ []) $ join ! $
    join ! $
    nothing ! $ use0 𝓛 (raw (fact 𝓤 (P₂ κs₂))) (fact_i 𝓤 (P₂ κs₂) (emp 𝓤) refl) $ join ! $
    use0 𝓛 (raw (fact 𝓤 TL)) (fact_i 𝓤 TL (emp 𝓤) tl) $ join ! $ move ! (1 ∷ 0 ∷ []) $
    use2 𝓛 (raw (G₂.pre z₂)) (id⊢ 𝓤 _) $
    calls_at ! (framed 𝓤 𝓛.H 𝓜 𝓣) G₂
    (reads 𝓤 𝓛 𝓜 𝓡 (code.calls-postcard_accumulator::accumulator::read 𝓡.env wired) T L Gh D
    Sh Ds Dd P₂ (λ κs' e. subst (λ (l : Lft). bound.Met 𝓛 𝓜 𝓡 𝓡.env l T Gh D Sh Ds) (sym e)
    (met κs pk)) shaped glue) z₂
    (and_then ! (get ! refl) (and_then ! (get ! refl) (no_more !))) (λ u.
    let Fr : RattleType = fed.the_row (named_lft 3 0 tt κs₂) (param 1 T) in
    let Read : FeedResult T.Denot → Type 0 = λ r. IsReadOf (IsOwn Sh.shape) t r in
    use1 𝓛 (later (some (λ (r : FeedResult T.Denot).
    ((‵ (flft α q1) ⊛ ‵ (flft κ q0) ⊛ ‵ (flft τ q3) ⊛ ‵ ftrue) ⊛ ‵ (Fr.own_val r (u ∷ []))) ⊛
    some (λ (ws : Lasts (second.ended T Gh D Sh Ds Dd P₂) κs₂ a₂). ‵
    (lasts (second.ended T Gh D Sh Ds Dd P₂) κs₂ a₂ ws) ⊛ raw (fact 𝓤 (Read r)))))) (id⊢ 𝓤 _) $
    await ! tt $ pick ! (λ r. split ! $ split ! $ move ! (2 ∷ []) $
    pick ! (λ ws₂. split ! $ drop ! $ heard ! (Read r) (λ read.
    -- [the tokens; the answer; the token of N; what follows]
    move ! (1 ∷ []) $ peeks ! Fr (Is Fr) (shows 𝓛 Fr) r (u ∷ [])
    (λ is-r. let good₂ =
    ((fed_laws.the_row_laws (named_lft 3 0 tt κs₂) (param 1 T) (param_laws 1 T L)).lawful
    𝓛).typed r (u ∷ []) is-r in
    lands_as ! refl refl good₂.0 $
    returns ! (look_at ! 0 refl) $ free_all ! refl $
    -- [the answer; the tokens; the token of N; what follows]
    move ! (3 ∷ []) $ use1 𝓛
    (‵ (follows_so Row Row γ none (λ _ _. ⊤) (IsFed N Sh.shape a.0.now a.1.1.0.now r)))
    (weaker 𝓛 Row γ (IsTaken N a.0.now a.1.1.0.now t) (IsFed N Sh.shape a.0.now a.1.1.0.now r)
    (λ e. read N a.0.now a.1.1.0.now e)) $
    let Answer : Type 0 = (after : State) × IsFed N Sh.shape a.0.now a.1.1.0.now r after in
    use0 𝓛 (raw (fact 𝓤 Answer))
    (fact_i 𝓤 Answer (emp 𝓤) (known.0, read N a.0.now a.1.1.0.now known.0 known.1)) $ join ! $
    move ! (2 ∷ []) $ split3 ! $ move ! (2 ∷ []) $ move ! (5 ∷ 0 ∷ []) $ join ! $
    move ! (1 ∷ 0 ∷ []) $ join ! $ move ! (1 ∷ 0 ∷ []) $ join ! $
    nothing ! $ nothing ! $ fjoin ! $ nothing ! $ fjoin ! $ nothing ! $ fjoin ! $
    keep ! (1 ∷ 0 ∷ 3 ∷ 2 ∷ []) $
    by ! (leaves 𝓛 En hs c y u r (tt, (tt, (tt, tt))) (tt, (tt, (tt, tt)))))))))))))))))))))

pub feed_ref_spec : {M : Type 1} → statement M
feed_ref_spec = walk first_met.met second_met.met
