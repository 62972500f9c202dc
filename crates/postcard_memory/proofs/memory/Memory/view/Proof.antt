-- `view` shares all bytes, for as long as the `&` to the `Memory` has left: the thread's token
-- opens where they are kept. Assumes `Logic`.
use Rattle.postcard_memory.proofs.Steps.{ℕ, List, [], ◌∷◌, ◌≡◌, ◌∙◌, ap, sym, refl, w64, ‵, raw, ◌⊛◌, regoal, prop, ftrue, flft, Val, vint, ◌$◌, ◌∵◌, !, qed, move, keep, split, join, fsplit, fjoin, rewrite, done, enter, alloc_all, pass_all, free_all, look_at, get, through, sets, sets_last, load, fld, stop, agg, and_then, no_more, of_opd, first, blocks, exec, at_ret, returns, look_in, sub, whole, env, plain, yes, u8, peeks, heard, shows, in_a_block, id⊢, use1, Stays, walk_of, stay_dropped, Goes-dropped, suffices, nothing, Ptr, slice_val, Room, fact}
use Rattle.std.proofs.Common.{◌<◌, ◌^◌, length, arith}
use Rattle.std.proofs.VecSteps.Shapes.{after}
use Rattle.std.proofs.raw_atomic.Walks.{leaves}
use base.Logic.{emp}
use base.Fml.{fhide}
use contract.Monad.{fact_i}
use mir.Val.{vptr}
use types.Kit.{use0}
use denote.Builtin.{usize, RefOf}
use denote.Laws.{Is}
use denote.Memory.{cell_at, hidden_shr}
use denote.Opens.{unhide, hide}
use denote.RattleType.{RattleType, owns}
use denote.Ref.{Bor, shr_vals}
use denote.Shadow.{pure_i}
use denote.Signature.{types_at}
use denote.Slice.{elements_shared, shr_slice_at}
use denote.Steps.{looks, shuts}
use denote.Struct.Lending.{lent_out}
use Rattle.postcard_memory.specs.declared.memory.Memory.{Memory}
use Rattle.postcard_memory.specs.Lent.{bytes_shared}
use Rattle.postcard_memory.specs.contracts.memory.Memory as C
use Rattle.postcard_memory.specs.contracts.memory.Memory.view as f
use Rattle.postcard_memory.proofs.memory.Memory.view.Statement.{statement}
use Rattle.postcard_memory.proofs.memory.Memory.view.Code as code
use Rattle.postcard_memory.proofs.Parts.{words, Words, as_words, opened}
use base.Fml.{Lft, ftok}
use base.Before.{before}
use base.Mask.{every}
use base.Logic.{ent, via, fst∗, snd∗}
use seplogic.Ra.Ura.{Ura}
use types.Logic.{Logic, sem}
use types.Kit.{later, await, group, fsplit3, split3}
use prog.Wp.{Tables, WpFn}
use prog.Memory.{Memory as Ram}
use prog.Routine.{Routine}
use sound.WpLaws.{WpFn-mono}
use contract.Beside.{Carries}
use contract.Monad.{Fun, fact_use}
use contract.Named.{bare_unfolds}
use contract.Running.{tables_of, bare_tables}
use denote.Laws.{Are, Ises, owns_show, showss}
use denote.Triple.Clauses.{Clauses, closing}
use denote.Triple.Entry.{on_entry, alive}
use denote.Triple.Handed.{holding, hands}
use denote.Triple.Spec.{Meets, triple_of}
use denote.Triple.Table.{entered}
use denote.Triple.Walked.{walk_Meets}
use Rattle.std.proofs.Common.{subst}
use Rattle.postcard_memory.specs.contracts.memory.Memory.view.Key.{name as #self}
use Rattle.postcard_memory.proofs.memory.Memory.view.Code.{code as the_code}
use Rattle.postcard_memory.proofs.Sharing.{reads}
use Rattle.postcard_memory.specs.contracts.memory.life.Life as L

abbrev stayed : Stays f.ended.signature.params f.ended.kept
stayed = (stay_dropped (RefOf (0 ∷ []) tt (plain (λ _. C.the_row)) (λ _. tt)) yes, (stay_dropped (RefOf (0 ∷ []) tt (plain (λ _. L.the_row)) (λ _. tt)) yes, (stay_dropped (plain (λ _. usize)) yes, tt)))

module _ {M : Type 1} {𝓤 : Ura M} (𝓛 : Logic 𝓤) (mem : Ram → base.Logic.SProp 𝓤) (run : Routine → Fun 𝓤) where
  open 𝓛 use {H, A}

  abbrev held : Clauses 𝓤 f.ended
  held = holding 𝓤 f.ended (A.tok every) (f.clauses 𝓛 mem run)

  walks : (𝓣 : Tables 𝓤 H) (z : (walk_of 𝓛 f.ended stayed held).Ghost) → Are (types_at f.ended.signature.params z.0.0) (Ises (types_at f.ended.signature.params z.0.0)) z.0.3 z.0.4
      → ent 𝓤 ((walk_of 𝓛 f.ended stayed held).pre z) (WpFn 𝓤 H 𝓣.C 𝓣.Λ code.function ((walk_of 𝓛 f.ended stayed held).args z) ((walk_of 𝓛 f.ended stayed held).post z))
  walks 𝓣 z are =
      let W = walk_of 𝓛 f.ended stayed held in let κs = z.0.0 in let qs = z.0.1 in let a = z.0.3 in
      let D : RattleType = Words in let κ = κs.0 in
      let b = a.0.ref_ptr.0 in let o = a.0.ref_ptr.1 in let d : Memory = a.0.now in let xs : List ℕ = d.items in let n : ℕ = a.1.1.0 in let fits : n < 2 ^ 64 = are.1.1.0.1 in
      let At : List Val → List Val → List Val → W.Ghost = λ us ls vs. ((κs, qs, z.0.2, a, (us, (ls, (vs, tt)))), z.1) in
      let y : W.Ghost = At (vptr b o ∷ []) (shr_vals a.1.0) (vint w64 n ∷ []) in
      qed 𝓛 (((‵ (flft κ qs.0) ⊛ ‵ ftrue) ⊛ ‵ (owns (types_at f.ended.signature.params κs) a z.0.4)) ∷ (‵ (ftok every) ⊛ (raw (fact 𝓤 (d.time ≡ a.1.0.now)) ⊛ raw (fact 𝓤 ((n ≡ length xs) × (n < 2 ^ 63))))) ∷ []) ∵
      regoal ! (λ (u : List Val × (List Val × List Val)). prop (WpFn 𝓤 H 𝓣.C 𝓣.Λ code.function (W.args (At u.0 u.1.0 u.1.1)) (W.post (At u.0 u.1.0 u.1.1)))) (λ i. (are.0.0 i, (are.1.0.0 i, are.1.1.0.0 i))) refl $
      move ! (1 ∷ []) $ split3 ! $ move ! (1 ∷ []) $ heard ! _ (λ same'. move ! (1 ∷ []) $ heard ! _ (λ asked. move ! (1 ∷ []) $ split ! $ split ! $ move ! (2 ∷ []) $ fsplit3 ! $ fsplit ! $ move ! (2 ∷ []) $ fsplit ! $
      -- [life's equation; life; self's equation; self; the rest; the token; nothing; the thread's]
      keep ! (3 ∷ 5 ∷ 1 ∷ 7 ∷ []) $
      enter ! 𝓣.C 𝓣.Λ code.function (W.args y) (W.post y) $ alloc_all ! (λ l. pass_all ! refl ((tt, tt), ((tt, tt), ((tt, record { fits = fits }), tt))) $
      -- [self; its token; the life; the thread's token]
      use1 𝓛 (‵ (hidden_shr D κ (d.start, tt) b o) ⊛ ‵ (fhide (bytes_shared d.time d.start d.loan xs κ)))
      (lent_out 𝓛 C.struct C.the_codes C.the_heap C.the_lent κ d b o) $ split ! $ move ! (3 ∷ []) $ unhide ! $ rewrite ! 0 (λ (t : Lft). ‵ (before κ t)) (sym same') refl $ move ! (2 ∷ []) $ unhide ! $
      in_a_block ! d.start (λ p. bytes_shared d.time p d.loan xs κ) (id⊢ 𝓤 _) (λ b' o' e.
      -- [the bytes; before; self's fields; the token; the thread's]
      move ! (0 ∷ 1 ∷ 3 ∷ 4 ∷ []) $ group ! 4 $
      use1 𝓛 (later (‵ (elements_shared u8 xs b' o' κ) ⊛ ‵ (flft κ qs.0) ⊛ ‵ (ftok every))) (reads 𝓛 d.time κ d.loan xs b' o' qs.0) $ await ! tt $ split3 ! $ move ! (3 ∷ 1 ∷ 0 ∷ 2 ∷ []) $
      -- [self's fields; the token; the bytes; the thread's token]
      looks ! tt D (opened 𝓛) (d.start, tt) b o (λ q vs. move ! (1 ∷ []) $ peeks ! D (Is D) (shows 𝓛 D) (d.start, tt) vs (λ is.
      let ev = as_words d.start vs is ∙ ap (λ (p : Ptr). words p ∷ []) e in
      rewrite ! 1 (λ (ws : List Val). ‵ (cell_at q D.mir ws b o)) ev refl $ first ! $ blocks ! $
      sets ! (of_opd ! (load ! (through ! refl (fld ! refl (stop !))) (look_in ! 1 (sub ! 0 refl (whole !))))) refl (tt, tt) $
      sets_last ! (agg ! (and_then ! (get ! refl) (and_then ! (get ! refl) (no_more !)))) refl (tt, (tt, (record { fits = fits }, tt))) $
      exec ! 𝓣.C 𝓣.Λ (env (code.function).locals l) (after 1 (code.function).body) (at_ret _ (W.post y)) $
      sets ! (of_opd ! (get ! refl)) refl (tt, (tt, (record { fits = fits }, tt))) $
      rewrite ! 1 (λ (ws : List Val). ‵ (cell_at q D.mir ws b o)) (sym ev) refl $ move ! (1 ∷ 0 ∷ 2 ∷ []) $ shuts ! tt D q (d.start, tt) vs b o $
      -- [the token; self's fields; the bytes; the thread's token]
      let r : Bor (List ℕ) = record { ref_ptr = (b', o'); now = xs } in let v : Val = slice_val (b', o') n in
      let same : n ≡ length xs = asked.0 in let most : n < 2 ^ 63 = asked.1 in let room : Room u8 (length xs) = (omega arith, omega arith) in
      move ! (2 ∷ []) $ hide ! $ pure_i ! (shr_slice_at u8 r (v ∷ [])) (tt, (tt, tt)) (ap (λ (k : ℕ). slice_val (b', o') k ∷ []) same, room) $ fjoin ! $
      returns ! (look_at ! 0 refl) $ free_all ! refl $ keep ! (0 ∷ 1 ∷ 3 ∷ []) $
      -- [the result; the token; the thread's token]
      use0 𝓛 (raw (fact 𝓤 (xs ≡ xs))) (fact_i 𝓤 _ (emp 𝓤) refl) $ move ! (3 ∷ 0 ∷ []) $ join ! $ nothing ! $ move ! (3 ∷ 0 ∷ []) $ join ! $ nothing ! $ nothing ! $ fjoin ! $ nothing ! $ fjoin ! $ nothing ! $ fjoin ! $
      -- [what lasts; its token; the thread's token and what is said; the result]
      move ! (1 ∷ 0 ∷ 3 ∷ 2 ∷ []) $ suffices ! _ (leaves 𝓛 f.ended stayed held y v r (tt, (tt, (tt, tt))) (tt, (tt, (tt, tt)))) $ done !))))))

  meets : (𝓣 : Tables 𝓤 H) → Meets 𝓛 f.ended.signature (WpFn 𝓤 H 𝓣.C 𝓣.Λ code.function) (closing 𝓛 f.ended held)
  meets 𝓣 =
      walk_Meets 𝓛 f.ended stayed (Goes-dropped 𝓛 1 (RefOf (0 ∷ []) tt (plain (λ _. C.the_row)) (λ _. tt)) yes (λ κs x w. refl), (Goes-dropped 𝓛 1 (RefOf (0 ∷ []) tt (plain (λ _. L.the_row)) (λ _. tt)) yes (λ κs x w. refl), (Goes-dropped 𝓛 1 (plain (λ _. usize)) yes (λ κs x w. refl), tt))) held
      (WpFn 𝓤 H 𝓣.C 𝓣.Λ code.function) (WpFn-mono 𝓤 H 𝓛.laws 𝓣 code.function)
      (λ z. let a = z.0.3 in let vss = z.0.4 in let Rs : List RattleType = types_at f.ended.signature.params z.0.0 in
      let On = on_entry 𝓛 f.ended.signature z.0.0 z.0.1 a vss in
      fact_use 𝓤 (Are Rs (Ises Rs) a vss) (via 𝓤 (sem 𝓛 (owns Rs a vss)) (via 𝓤 On (fst∗ 𝓤 On ((held z.0.0 a).requires z.1)) (snd∗ 𝓤 (alive 𝓛 f.ended.signature z.0.0 z.0.1) (sem 𝓛 (owns Rs a vss))))
      (owns_show 𝓛 Rs (Ises Rs) (showss 𝓛 Rs) a vss)) (λ are. walks 𝓣 z are))

pub view_spec : {M : Type 1} → statement M
unfolding tables_of the_code
view_spec 𝓤 𝓛 𝓜 𝓡 wired =
    let A = 𝓛.A in
    let c = f.clauses 𝓛 𝓜.mem 𝓡.returns in
    let 𝓒 : Carries 𝓤 𝓛.H 𝓜 (A.tok every) = subst (Carries 𝓤 𝓛.H 𝓜) 𝓛.turn_is 𝓡.carries in
    let 𝓣 : Tables 𝓤 𝓛.H = tables_of 𝓤 𝓛.H 𝓒.inner (bare_tables 𝓤 𝓛.H 𝓒.inner 𝓡.allowed 𝓡.how 𝓡.env) in
    let k = #self in
    hands 𝓛 f.ended (A.tok every) c 𝓜 𝓒 𝓡 (𝓡.env k)
    (entered 𝓤 𝓛.H (triple_of 𝓛 f.ended.signature (closing 𝓛 f.ended (holding 𝓤 f.ended (A.tok every) c))) 𝓣.C 𝓣.Λ k code.function
    (bare_unfolds 𝓤 𝓛.H 𝓒.inner 𝓡.allowed 𝓡.how 𝓡.env k code.function (wired.0.0 k refl))
    (meets 𝓛 𝓜.mem 𝓡.returns 𝓣))
