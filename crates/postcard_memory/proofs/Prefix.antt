-- The front of a `&mut [u8]` is lent for as long as the whole was, and the whole follows what
-- becomes of the front. Assumes `Logic`.
use Rattle.std.proofs.Common.{◌≡◌, ℕ, ◌+◌, List, [], ◌∷◌, ◌++◌, length, refl, sym, arith}
use lib.ListN.{length-append}
use seplogic.Ra.Ura.{Ura}
use mir.Syntax.{Lifetime}
use mir.Val.{Val}
use base.Logic.{SProp, ent, sep, ex}
use base.Stored.{coded_list}
use base.Fml.{Lft, GName, Share, flft, fobs, fbor}
use types.Logic.{Logic, sem}
use types.Kit.{‵, ◌⊛◌, raw, some, later, await, pick, split, split3, use1, use2, group, updating, now, show, ◌$◌, ◌∵◌, !, qed, move, rewrite, fsplit, fsplit3, fjoin, feq_l, feq_i, done}
use types.Kit as kit
use types.SemTy.{cells, Arr, Body}
use types.Follow.{takes_part}
use types.Mut.{open_ref}
use denote.Array.{Array}
use denote.Builtin.{u8}
use denote.Follow.{follows}
use denote.FollowSlice.{heres_id, slice_of}
use denote.Memory.{mem}
use denote.Slice.{MutSlice, Room, slice_val}
use borrow.Table.Elements.{at, cut_app, join_app}

module _ {M : Type 1} {𝓤 : Ura M} (𝓛 : Logic 𝓤) (ℓ : Lifetime) (κ : Lft) (q : Share) (b o : ℕ) (γ : GName) (front back : List ℕ) where
  open 𝓛 use {H, A}

  -- n bytes in a row
  abbrev L : ℕ → types.SemTy.SemTy
  L n = Arr (mem u8) n

  -- The whole, if the front ends as w.
  abbrev onto : List ℕ → List ℕ
  onto w = w ++ back

  -- The place at which the back begins.
  abbrev p : ℕ
  p = at o (mem u8).size (length front)

  -- the front under a new name, the token, and what the whole ends as
  abbrev pub FrontLent : GName → SProp 𝓤
  FrontLent δ = sep 𝓤 (sem 𝓛 ((MutSlice ℓ κ u8).own_val (record { ref_ptr = (b, o); ghost_name = δ; now = front }) (slice_val (b, o) (length front) ∷ []))) (sep 𝓤 (A.lft κ q) (sem 𝓛 (follows (Array u8 0) (Array u8 0) γ δ onto)))

  -- A front and the back make a whole.
  put : (ws : List ℕ) → ent 𝓤 (sep 𝓤 (sem 𝓛 ((L (length front)).own_at ws b o)) (sem 𝓛 (cells (mem u8) back b p))) (sem 𝓛 ((L (length (front ++ back))).own_at (ws ++ back) b o))
  put ws = qed 𝓛 (‵ ((L (length front)).own_at ws b o) ∷ ‵ (cells (mem u8) back b p) ∷ []) ∵ fsplit ! $ feq_l ! (λ e.
      let whole : length (front ++ back) ≡ length front + length back = length-append front back in
      let new : length (ws ++ back) ≡ length ws + length back = length-append ws back in
      rewrite ! 1 (λ (k : ℕ). ‵ (cells (mem u8) back b (at o (mem u8).size k))) (sym e) refl $
      use2 𝓛 (‵ (cells (mem u8) (ws ++ back) b o)) (join_app 𝓛 (mem u8) ws back b o) $
      feq_i ! ℕ (length (ws ++ back)) (length (front ++ back)) (omega arith) $ fjoin ! $ done !)

  -- What a caller holds of the whole may be exchanged for the front under a new name.
  pub lends_front : Room u8 (length front) → (vs : List Val)
      → ent 𝓤 (sep 𝓤 (sem 𝓛 ((MutSlice ℓ κ u8).own_val (record { ref_ptr = (b, o); ghost_name = γ; now = front ++ back }) vs)) (A.lft κ q)) (H.⇛ (ex 𝓤 FrontLent))
  lends_front rm vs = qed 𝓛 (‵ ((MutSlice ℓ κ u8).own_val (record { ref_ptr = (b, o); ghost_name = γ; now = front ++ back }) vs) ∷ ‵ (flft κ q) ∷ []) ∵ updating ! $ fsplit3 ! $ kit.drop ! $
      rewrite ! 0 (λ (l : List ℕ). ‵ (fobs γ ((coded_list u8.coded).code l))) (heres_id u8 (front ++ back)) refl $ open_ref ! tt (L (length (front ++ back))) {b = b} {o = o} $ fsplit ! $ kit.drop ! $
      use1 𝓛 (‵ (cells (mem u8) front b o) ⊛ ‵ (cells (mem u8) back b p)) (cut_app 𝓛 (mem u8) front back b o) $ split ! $
      feq_i ! ℕ (length front) (length front) refl $ fjoin ! $ move ! (2 ∷ 3 ∷ 4 ∷ 0 ∷ 1 ∷ []) $ group ! 5 $
      use1 𝓛 (later (some (λ (δ : GName). ‵ (fobs δ ((coded_list u8.coded).code front)) ⊛ ‵ (fbor κ (Body (L (length front)) b o δ)) ⊛ ‵ (flft κ q) ⊛ ‵ (follows (Array u8 0) (Array u8 0) γ δ onto))))
      (takes_part 𝓛 (L (length (front ++ back))) (L (length front)) onto κ q b o b o γ (sem 𝓛 (cells (mem u8) back b p)) put ((coded_list u8.coded).code (front ++ back)) ((coded_list u8.coded).code (front ++ back)) front) $ await ! tt $ pick ! (λ δ. split3 ! $
      use2 𝓛 (‵ ((MutSlice ℓ κ u8).own_val (record { ref_ptr = (b, o); ghost_name = δ; now = front }) (slice_val (b, o) (length front) ∷ []))) (slice_of 𝓛 u8 ℓ κ b o δ front rm) $ now ! $ show ! FrontLent δ $ done !)
