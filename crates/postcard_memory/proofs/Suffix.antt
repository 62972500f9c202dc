-- The bytes of a `&mut [u8]` after its front are lent for as long as the whole was, and the front is shared for as long. The
-- whole follows what becomes of the rest. Assumes `Logic`.
use Rattle.std.proofs.Common.{◌≡◌, ℕ, ◌+◌, List, [], ◌∷◌, ◌++◌, length, refl, sym, arith, w8}
use lib.ListN.{length-append}
use seplogic.Ra.Ura.{Ura}
use mir.Syntax.{Lifetime}
use mir.Val.{Val}
use base.Fraction.{full_share}
use base.Logic.{SProp, ent, sep, ex, emp, id⊢}
use base.Stored.{coded_list}
use base.Fml.{Lft, Fml, GName, Share, Incl-refl, flft, fobs, fbor, fsep, fseps, ftrue}
use ghost.Rules.{Toks}
use types.Logic.{Logic, sem, lfts}
use types.Kit.{‵, ◌⊛◌, raw, some, later, await, pick, split, split3, use0, use1, use2, group, updating, now, show, ◌$◌, ◌∵◌, !, qed, move, rewrite, fsplit, fsplit3, fjoin, feq_l, feq_i, done}
use types.Kit as kit
use types.SemTy.{cells, Arr, Body}
use types.Follow.{takes_beside}
use types.Mut.{open_ref}
use denote.Array.{Array}
use denote.Builtin.{u8}
use denote.Copied.{uint_Copied}
use denote.Follow.{follows}
use denote.FollowSlice.{heres_id, slice_of}
use denote.Memory.{mem, shared_of}
use denote.Shares.{shares_each}
use denote.Slice.{MutSlice, Room, slice_val, elements_shared}
use borrow.Table.Elements.{at, cut_app, join_app}
use Rattle.postcard_memory.proofs.Sharing.{whole_cells}

module _ {M : Type 1} {𝓤 : Ura M} (𝓛 : Logic 𝓤) (ℓ : Lifetime) (κ : Lft) (q : Share) (b o : ℕ) (γ : GName) (front back : List ℕ) where
  open 𝓛 use {H, A}

  -- n bytes in a row
  abbrev L : ℕ → types.SemTy.SemTy
  L n = Arr (mem u8) n

  -- The whole, if the rest ends as w.
  abbrev after_front : List ℕ → List ℕ
  after_front w = front ++ w

  -- The place at which the rest begins.
  abbrev p : ℕ
  p = at o (mem u8).size (length front)

  -- the rest under a new name, the token, what the whole ends as, and the front, shared
  abbrev pub RestLent : GName → SProp 𝓤
  RestLent δ = sep 𝓤 (sem 𝓛 ((MutSlice ℓ κ u8).own_val (record { ref_ptr = (b, p); ghost_name = δ; now = back }) (slice_val (b, p) (length back) ∷ []))) (sep 𝓤 (A.lft κ q) (sep 𝓤 (sem 𝓛 (follows (Array u8 0) (Array u8 0) γ δ after_front)) (sem 𝓛 (elements_shared u8 front b o κ))))

  -- The front and a rest make a whole.
  put : (ws : List ℕ) → ent 𝓤 (sep 𝓤 (sem 𝓛 ((L (length back)).own_at ws b p)) (sep 𝓤 (sem 𝓛 (fseps (cells (mem u8) front b o ∷ []))) (emp 𝓤))) (sem 𝓛 ((L (length (front ++ back))).own_at (front ++ ws) b o))
  unfolding fseps
  put ws = qed 𝓛 (‵ ((L (length back)).own_at ws b p) ∷ ‵ (fsep (cells (mem u8) front b o) ftrue) ∷ raw (emp 𝓤) ∷ []) ∵ fsplit ! $ feq_l ! (λ e. move ! (1 ∷ []) $ fsplit ! $ move ! (1 ∷ []) $ kit.drop ! $ move ! (2 ∷ []) $ kit.drop ! $
      let whole : length (front ++ back) ≡ length front + length back = length-append front back in
      let new : length (front ++ ws) ≡ length front + length ws = length-append front ws in
      use2 𝓛 (‵ (cells (mem u8) (front ++ ws) b o)) (join_app 𝓛 (mem u8) front ws b o) $
      feq_i ! ℕ (length (front ++ ws)) (length (front ++ back)) (omega arith) $ fjoin ! $ done !)

  -- What a caller holds of the whole may be exchanged for the front, shared, and the rest under a new name.
  pub lends_rest : Room u8 (length back) → (vs : List Val)
      → ent 𝓤 (sep 𝓤 (sem 𝓛 ((MutSlice ℓ κ u8).own_val (record { ref_ptr = (b, o); ghost_name = γ; now = front ++ back }) vs)) (A.lft κ q)) (H.⇛ (ex 𝓤 RestLent))
  unfolding fseps
  lends_rest rm vs = let ts : Toks = (κ, q) ∷ [] in qed 𝓛 (‵ ((MutSlice ℓ κ u8).own_val (record { ref_ptr = (b, o); ghost_name = γ; now = front ++ back }) vs) ∷ ‵ (flft κ q) ∷ []) ∵ updating ! $ fsplit3 ! $ kit.drop ! $
      rewrite ! 0 (λ (l : List ℕ). ‵ (fobs γ ((coded_list u8.coded).code l))) (heres_id u8 (front ++ back)) refl $ open_ref ! tt (L (length (front ++ back))) {b = b} {o = o} $ fsplit ! $ kit.drop ! $
      use1 𝓛 (‵ (cells (mem u8) front b o) ⊛ ‵ (cells (mem u8) back b p)) (cut_app 𝓛 (mem u8) front back b o) $ split ! $
      -- [the front; the rest; the open borrow; the name's halves]
      use0 𝓛 (‵ ftrue) (id⊢ 𝓤 (emp 𝓤)) $ move ! (1 ∷ 0 ∷ []) $ fjoin ! $ use1 𝓛 (‵ (fseps (cells (mem u8) front b o ∷ []))) (id⊢ 𝓤 _) $ use0 𝓛 (raw (emp 𝓤)) (id⊢ 𝓤 (emp 𝓤)) $ move ! (2 ∷ []) $
      feq_i ! ℕ (length back) (length back) refl $ fjoin ! $ move ! (3 ∷ 4 ∷ 5 ∷ 0 ∷ 2 ∷ 1 ∷ []) $ group ! 6 $
      use1 𝓛 (later (some (λ (δ : GName). ‵ (fobs δ ((coded_list u8.coded).code back)) ⊛ ‵ (fbor κ (Body (L (length back)) b p δ)) ⊛ ‵ (flft κ q) ⊛ ‵ (follows (Array u8 0) (Array u8 0) γ δ after_front) ⊛ (‵ (fbor κ (cells (mem u8) front b o)) ⊛ raw (emp 𝓤)))))
      (takes_beside 𝓛 (L (length (front ++ back))) (L (length back)) after_front κ q b o b p γ (cells (mem u8) front b o ∷ []) (emp 𝓤) put ((coded_list u8.coded).code (front ++ back)) ((coded_list u8.coded).code (front ++ back)) back) $ await ! tt $ pick ! (λ δ. split3 ! $
      use2 𝓛 (‵ ((MutSlice ℓ κ u8).own_val (record { ref_ptr = (b, p); ghost_name = δ; now = back }) (slice_val (b, p) (length back) ∷ []))) (slice_of 𝓛 u8 ℓ κ b p δ back rm) $
      -- [the rest; the token, what the whole follows, and the front]
      move ! (1 ∷ []) $ split3 ! $ move ! (2 ∷ []) $ split ! $ move ! (1 ∷ []) $ kit.drop ! $
      -- [the borrow of the front; the token; what the whole follows; the rest]
      rewrite ! 0 (λ (F : Fml). ‵ (fbor κ F)) (sym (whole_cells front b o)) refl $
      use2 𝓛 (later (‵ (elements_shared u8 front b o κ) ⊛ raw (lfts 𝓛 ts))) (shares_each 𝓛 u8 (shared_of u8) κ ((uint_Copied 𝓛 w8).shares full_share κ) front κ ts b o (Incl-refl κ) (Incl-refl κ)) $ await ! tt $ split ! $
      now ! $ show ! RestLent δ $ move ! (3 ∷ 1 ∷ 2 ∷ 0 ∷ []) $ done !)
