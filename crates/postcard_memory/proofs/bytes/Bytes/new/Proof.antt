-- `new` keeps the pointer to the bytes, and what a `&[u8]` owns of them. Assumes `Logic`.
use Rattle.postcard_memory.proofs.Steps.{[], ◌∷◌, refl, proved, ‵, raw, ◌⊛◌, tables, ftrue, flft, named, ◌$◌, ◌∵◌, !, qed, move, keep, split, drop, fsplit, enter, alloc_all, pass_all, free_all, look_at, look_in_at, get, sets, addr, from, fld, hop, stop, agg, and_then, no_more, returns, sub, whole, plain, yes, u8, Stays, walk_of, stay_dropped, Goes-dropped, suffices, ends_at, block_ptr, nothing, join}
use denote.Builtin.{SliceRefOf}
use Rattle.postcard_memory.specs.contracts.bytes.Bytes.new as f
use Rattle.postcard_memory.proofs.bytes.Bytes.new.Statement.{statement}
use Rattle.postcard_memory.proofs.bytes.Bytes.new.Code as code
use denote.Signature.{named_lft}
use Rattle.std.proofs.Common.{◌<◌, ◌*◌, ◌^◌, ◌≡◌, arith}
use base.Logic.{emp}
use contract.Monad.{fact, fact_i}
use types.Kit.{group, done}
use types.Kit.{flt_i, use0, fjoin}
use Rattle.std.proofs.Common.{length}
use Rattle.postcard_memory.specs.declared.bytes.Bytes.{Bytes}
use Rattle.postcard_memory.proofs.BytesParts.{words}
use Rattle.postcard_memory.proofs.BytesParts.{Words, made}
use denote.Slice.{ShrSlice, shr_slice_vals, shr_slice_Tells}

abbrev stayed : Stays f.ended.signature.params f.ended.kept
stayed = (stay_dropped (SliceRefOf (0 ∷ []) tt (plain (λ _. u8)) (λ _. tt)) yes, tt)

pub new_spec : {M : Type 1} → statement M
new_spec 𝓤 𝓛 𝓜 𝓡 wired =
    let c = f.clauses 𝓛 𝓜.mem 𝓡.returns in let W = walk_of 𝓛 f.ended stayed c in let 𝓣 = tables 𝓤 𝓛.H 𝓜 𝓡 𝓡.env in
    proved 𝓛 f.ended stayed c 𝓜 𝓡 (Goes-dropped 𝓛 1 (SliceRefOf (0 ∷ []) tt (plain (λ _. u8)) (λ _. tt)) yes (λ κs x w. refl), tt)
    f.Key.name code.function (code.unfolded 𝓤 𝓛.H 𝓜 𝓡 wired)
    (λ κs. (shr_slice_vals, tt)) (λ κs. (shr_slice_Tells (named 0) κs.0 u8, tt)) (λ κs qs bounds a _ are.
    let κ = κs.0 in let q = qs.0 in let b = a.0.ref_ptr.0 in let o = a.0.ref_ptr.1 in let xs = a.0.now in
    let bytes : length xs * 1 < 2 ^ 63 = are.0.0.1.1 in let ℓ = named_lft 1 0 tt κs in let v = words (block_ptr b o) in
    let d : Bytes = record { start = block_ptr b o; mark = record {}; items = xs } in
    let y : W.Ghost = ((κs, qs, bounds, a, (shr_slice_vals a.0, tt)), tt) in
    qed 𝓛 (((‵ (flft κ q) ⊛ ‵ ftrue) ⊛ ‵ ((ShrSlice (named 0) κ u8).own_val a.0 (shr_slice_vals a.0)) ⊛ ‵ ftrue) ∷ ‵ ftrue ∷ []) ∵
    split ! $ split ! $ move ! (2 ∷ []) $ split ! $ keep ! (0 ∷ 2 ∷ []) $
    enter ! _ _ _ _ _ $ alloc_all ! (λ l. pass_all ! refl ((tt, (tt, (record { fits = are.0.0.1.0 }, tt))), tt) $
    -- [the slice; the token of κ]
    sets ! (addr ! (from ! (fld ! refl (hop ! (look_in_at ! 1 (sub ! 0 refl (whole !))) (stop !))))) refl (tt, tt) $
    sets ! (agg ! (no_more !)) refl (tt, tt) $
    sets ! (agg ! (and_then ! (get ! refl) (and_then ! (get ! refl) (no_more !)))) refl (tt, (tt, (tt, tt))) $
    returns ! (look_at ! 0 refl) $ free_all ! refl $
    fsplit ! $ drop ! $ flt_i ! (length xs) (2 ^ 63) (omega arith) $ fjoin ! $
    -- [what is shared; the token of κ]
    use0 𝓛 (‵ ((Words ℓ).own_val (block_ptr b o, (tt, tt)) (v ∷ []))) (made ℓ 𝓛 (block_ptr b o)) $ fjoin ! $
    -- [the result; the token of κ]
    suffices ! _ (ends_at 𝓛 f.ended stayed c y v d (tt, tt) (tt, tt)) $
    keep ! (0 ∷ 1 ∷ []) $ nothing ! $ nothing ! $ join ! $ nothing ! $ move ! (3 ∷ 0 ∷ []) $ join ! $ move ! (0 ∷ 1 ∷ 2 ∷ []) $ group ! 3 $
    use0 𝓛 (raw (fact 𝓤 (xs ≡ xs))) (fact_i 𝓤 _ (emp 𝓤) refl) $ move ! (1 ∷ 0 ∷ []) $ done !))
