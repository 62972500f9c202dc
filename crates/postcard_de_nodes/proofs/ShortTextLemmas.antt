-- Texts of a fixed capacity, made of texts that were read.
use Rattle.std.proofs.Common.{◌≡◌, ℕ, ◌<◌, ◌≤◌, ◌^◌, inr, List, ◌++◌, length, Ok, refl, sym}
use Rattle.std.proofs.Common.{◌∙◌, ap, subst}
use Rattle.std.specs.Prelude.{IsUtf8}
use Rattle.postcard_wire.specs.declared.error.Error.TheVariants.{SerdeDeCustom}
use Rattle.postcard_wire.specs.Number.{SpellsNum}
use Rattle.postcard_wire.specs.Tree.{Tree, Text}
use Rattle.postcard_wire.specs.Reading.{IsText}
use Rattle.postcard_shape.specs.Shape.{never}
use Rattle.postcard_de_flavors.specs.Source.{Left, Takes, Laws}
use Rattle.postcard_de_nodes.specs.Reads.{ReadsFrom}
use Rattle.postcard_de_nodes.specs.Refuses.{RefusesFrom, WantsText}
use Rattle.postcard_de_nodes.specs.Unfit.{BadShortText}
use Rattle.postcard_shape.specs.Leaves.{IsShortText, text_same, Same}
use Rattle.postcard_de_nodes.specs.TakeLemmas.{both_taken}
use Rattle.postcard_de_nodes.specs.NumberLemmas.{Below, number_spelled}

-- A text of at most n bytes is read as a text of capacity n.
pub short_fits : (n : ℕ) (u w : List ℕ) → length u ≤ n → IsUtf8 u → length u < 2 ^ 64 → w ≡ u →
    (x : Tree) → IsText x → x ≡ Text u → IsShortText n x × (x ≡ Text w)
short_fits n u w few utf8 low e x r is = ((u, is, few, utf8, low), is ∙ ap Text (sym e))

-- A text of more than n bytes is no text of capacity n.
pub long_unfit : (n : ℕ) (u : List ℕ) → (length u ≤ n → ⊥) → (x : Tree) → IsShortText n x →
    x ≡ Text u → ⊥
long_unfit n u many x r is =
    many (subst (λ (v : List ℕ). length v ≤ n) (text_same r.0 u (sym r.1 ∙ is)) r.2)

module _ {S : Type 0} {left : S → Left} {able : S → ℕ → Type 0}
    {may_leave : S → S → Type 0} (laws : Laws left able may_leave) {n : ℕ} {old mid : S}
    (counted : ReadsFrom (SpellsNum 64) (Below 64) Same never left able may_leave old (Ok n) mid) where
  -- A text that is longer than the capacity is a reason to fail with `SerdeDeCustom`.
  pub text_long : {m : ℕ} {u : List ℕ} {new : S} → length u ≡ n → Takes left able mid u new →
      IsUtf8 u → m < length u →
      RefusesFrom WantsText (BadShortText m) left able old SerdeDeCustom new
  text_long {u = u} long t utf8 many = inr (record {
    front = counted.gives.front ++ u;
    taken = both_taken counted.gives.taken t;
    why = inr (
      refl,
      (
        counted.gives.front,
        u,
        subst (λ (k : ℕ). SpellsNum 64 k counted.gives.front)
            (sym long) (number_spelled laws counted),
        refl,
        utf8,
        many,
      ),
    );
  })
