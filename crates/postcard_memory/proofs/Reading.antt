-- What a `&` to a `Bytes` has of the bytes is made from a borrow of the `Bytes`, and is split in
-- two at a place. Assumes `Logic`.
use Rattle.std.proofs.Common.{◌≡◌, ℕ, ◌+◌, ◌<◌, ◌≤◌, ◌^◌, List, [], ◌∷◌, length, take, drop as drop_list, get_or, refl, subst, ap, ◌∙◌, w8}
use seplogic.Ra.Ura.{Ura}
use base.Logic.{ent, sep, wand, apply∗}
use base.Fml.{Lft, Fml, fbor, fhide, flt}
use types.Logic.{Logic, sem, lfts}
use types.Kit.{‵, raw, ◌⊛◌, later, ◌$◌, !, qed, move, drop, use2, split, await, updating, now, done}
use denote.Builtin.{u8}
use borrow.Table.Elements.{at, at_byte, length-take-le}
use borrow.Table.SharedPart.{each-one, each_take, each-drop}
use native.Mathlib.Nat.{not-suc-le-zero}
use denote.Memory.{mem, shared_of, hidden_shr}
use denote.Opens.{unhide, twice_dup}
use denote.Plain.{uint_row_laws}
use denote.RawPtr.{Ptr, block_ptr, null_ptr}
use denote.Sharing.{ShrLaws, said, held}
use denote.SharingLaws.{said_shr_laws, beside_shr_laws, held_shr_laws, contraction}
use denote.Slice.{elements_shared, elements_shr_laws}
use denote.Struct.Lending.{Lends, Lends-false, Lends-said, Lends-both}
use Rattle.postcard_memory.specs.Read.{read_bytes, read_shared}

abbrev most : List ℕ → Fml
most xs = flt (length xs) (2 ^ 63)

abbrev each_law : (xs : List ℕ) (b o : ℕ) → ShrLaws (elements_shared u8 xs b o)
each_law = elements_shr_laws u8 (uint_row_laws w8)

pub read_laws : (κ' : Lft) (p : Ptr) (xs : List ℕ) → ShrLaws (read_shared κ' p xs)
read_laws κ' (block_ptr b o) xs = beside_shr_laws (said (most xs)) (held κ' (elements_shared u8 xs b o)) (said_shr_laws (most xs) tt) (held_shr_laws κ' (elements_shared u8 xs b o) (each_law xs b o))
read_laws κ' null_ptr xs = said_shr_laws base.Fml.ffalse tt

module _ {M : Type 1} {𝓤 : Ura M} (𝓛 : Logic 𝓤) where
  open 𝓛 use {H, A}

  -- A borrow of what may be had twice lends it.
  Lends-held : (t : Lft → Fml) → ShrLaws t → (κ' l : Lft) → Lends 𝓛 (fhide (t κ')) (held κ' t) l
  Lends-held t law κ' l κ ts inc sp = let P : Fml = fhide (t κ') in qed 𝓛 (‵ (fbor κ P) ∷ raw (lfts 𝓛 ts) ∷ []) {P = H.⇛ (sep 𝓤 (sem 𝓛 (held κ' t κ)) (lfts 𝓛 ts))} (
      updating ! $ use2 𝓛 (later (‵ P ⊛ raw (wand 𝓤 (sem 𝓛 P) (H.⇛ (sep 𝓤 (A.bor κ P) (lfts 𝓛 ts)))))) (𝓛.more.bor_acc_by κ ts P sp) $ await ! tt $ split ! $
      twice_dup ! t (λ κ''. contraction 𝓛 t law κ'') κ' $ move ! (1 ∷ 2 ∷ []) $
      use2 𝓛 (later (‵ (fbor κ P) ⊛ raw (lfts 𝓛 ts))) (apply∗ 𝓤 (sem 𝓛 P) (H.⇛ (sep 𝓤 (A.bor κ P) (lfts 𝓛 ts)))) $ await ! tt $ split ! $ drop ! $ move ! (1 ∷ []) $ unhide ! $ now ! $ done !)

  pub Lends-read : (κ' l : Lft) (xs : List ℕ) (p : Ptr) → Lends 𝓛 (read_bytes κ' p xs) (read_shared κ' p xs) l
  Lends-read κ' l xs null_ptr κ ts inc sp = Lends-false 𝓛 (read_shared κ' null_ptr xs) l κ ts inc sp
  Lends-read κ' l xs (block_ptr b o) κ ts inc sp =
      Lends-both 𝓛 (most xs) (fhide (elements_shared u8 xs b o κ')) (said (most xs)) (held κ' (elements_shared u8 xs b o)) l (Lends-said 𝓛 (most xs) tt l) (Lends-held (elements_shared u8 xs b o) (each_law xs b o) κ' l) κ ts inc sp

  module _ (xs : List ℕ) (b o : ℕ) (κ : Lft) where
    -- What is shared of the bytes is shared of the first n of them.
    pub front : (n : ℕ) → ent 𝓤 (sem 𝓛 (fhide (elements_shared u8 xs b o κ))) (sem 𝓛 (fhide (elements_shared u8 (take n xs) b o κ)))
    front n = each_take 𝓛 (shared_of u8) (mem u8).size κ b n xs o

    -- What is shared of the bytes is shared of those after the first n.
    pub back : (n : ℕ) → n ≤ length xs → ent 𝓤 (sem 𝓛 (fhide (elements_shared u8 xs b o κ))) (sem 𝓛 (fhide (elements_shared u8 (drop_list n xs) b (n + o) κ)))
    back n inside =
        let place : at o (mem u8).size (length (take n xs)) ≡ n + o = at_byte o (length (take n xs)) ∙ ap (λ (k : ℕ). k + o) (length-take-le n xs inside) in
        subst (λ (k : ℕ). ent 𝓤 (sem 𝓛 (elements_shared u8 xs b o κ)) (sem 𝓛 (elements_shared u8 (drop_list n xs) b k κ))) place (each-drop 𝓛 (shared_of u8) (mem u8).size κ b n xs o)

    -- What is shared of the bytes is shared of the first byte.
    pub first_of : 0 < length xs → ent 𝓤 (sem 𝓛 (fhide (elements_shared u8 xs b o κ))) (sem 𝓛 (hidden_shr u8 κ (get_or xs 0 0) b o))
    first_of some = each-one 𝓛 (shared_of u8) (mem u8).size κ b xs 0 0 o some

-- A list that is not empty is its first element and the rest.
pub first_and_rest : (xs : List ℕ) → 0 < length xs → xs ≡ get_or xs 0 0 ∷ drop_list 1 xs
first_and_rest [] some = absurd (not-suc-le-zero some)
first_and_rest (x ∷ xs) some = refl
