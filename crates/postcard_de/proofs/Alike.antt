-- Two readings of the front of the same bytes agree.
use Rattle.std.proofs.Common.{◌≡◌, List, ℕ, ◌++◌, sym, ◌∙◌, ap, subst}
use Rattle.std.proofs.lemmas.List.{append_cancel_left}
use Rattle.postcard_wire.specs.Tree.{Tree}
use Rattle.postcard_wire.specs.Reading.{IsDelimited}
use Rattle.postcard_shape.specs.Shape.{HasOne}
use Rattle.postcard_de.specs.Front.{ReadsFront}

-- Both fronts are equal and spell one tree, and two values of one tree look alike. So the values
-- look alike, and the rests are equal.
pub fronts_alike : {V : Type 0} {reads : Tree → Type 0} {value : Tree → V → Type 0}
    {same : V → V → Type 0} {all rest left : List ℕ} {v w : V}
    → IsDelimited reads → HasOne value same
    → ReadsFront reads value all v rest → ReadsFront reads value all w left
    → same v w × (rest ≡ left)
fronts_alike {value = value} {rest = rest} {left = left} {v = v} {w = w} delimited one_value a b =
    let same_bytes = sym a.joins ∙ b.joins in
    let one = delimited a.tree b.tree a.front b.front rest left a.is_read b.is_read
    a.is_spelled b.is_spelled same_bytes in (
      one_value a.tree v w a.has (subst (λ (s : Tree). value s w) (sym one.1) b.has),
      append_cancel_left a.front rest left
          (same_bytes ∙ ap (λ (p : List ℕ). p ++ left) (sym one.0)),
    )
