-- The data fields of a `Bytes`. Assumes `Logic`.
use Rattle.std.proofs.Common.{◌≡◌, List, [], ◌∷◌, ◌++◌, refl, ap, ◌∙◌}
use seplogic.Ra.Ura.{Ura}
use mir.Val.{Val, of_list, vstruct, vcons, vnil}
use base.Logic.{ent, emp}
use types.Logic.{Logic, sem}
use denote.Builtin.{u8}
use denote.Copied.{Struct-Copied}
use denote.Laws.{Is}
use denote.Opens.{Opens}
use denote.Struct.Field.{shr_ref_field}
use denote.Struct.Laws.{RawPtr-copy, field_copy}
use Rattle.std.specs.contracts.marker.PhantomData as marker
use denote.RattleType.{RattleType}
use denote.Ref.{NamedLft}
use denote.RawPtr.{Ptr, ptr_val}
use denote.Shadow.{makes_shadow}
use denote.Struct.Struct.{Struct}
use denote.Struct.Owning.{shape}
use Rattle.postcard_memory.specs.contracts.bytes.Bytes as inside

abbrev pub words : Ptr → Val
words p = vstruct (vcons (ptr_val p) (vcons (vstruct vnil) vnil))

module _ (a : NamedLft) where
  abbrev pub Words : RattleType
  Words = Struct (shape (inside.the_type a))

  pub made : {M : Type 1} {𝓤 : Ura M} (𝓛 : Logic 𝓤) (p : Ptr) → ent 𝓤 (emp 𝓤) (sem 𝓛 (Words.own_val (p, (tt, tt)) (words p ∷ [])))
  made 𝓛 p = makes_shadow 𝓛 (Words.own_val (p, (tt, tt)) (words p ∷ [])) (λ vss. (tt, (tt, ((λ u. (tt, tt)), tt)))) ((ptr_val p ∷ [], (vstruct vnil ∷ [], tt)), (refl, (refl, ((tt, (refl, tt)), tt))))

  pub as_words : (p : Ptr) (vs : List Val) → Is Words (p, (tt, tt)) vs → vs ≡ words p ∷ []
  as_words p vs is = is.1.0 ∙ ap (λ (ws : List Val). vstruct (of_list (ws ++ (is.0.1.0 ++ []))) ∷ []) is.1.1.0 ∙ ap (λ (ws : List Val). vstruct (of_list (ptr_val p ∷ (ws ++ []))) ∷ []) is.1.1.1.0.1.0

  pub opened : {M : Type 1} {𝓤 : Ura M} (𝓛 : Logic 𝓤) → Opens 𝓛 Words
  opened {M} {𝓤 = 𝓤} 𝓛 = (Struct-Copied 𝓛 (shape (inside.the_type a)) (refl, (refl, tt)) (RawPtr-copy.copied M 𝓤 𝓛, ((field_copy (marker.the_type (shr_ref_field a u8 tt).row) tt).copied M 𝓤 𝓛, tt))).opens
