-- A value that is written as a variant of its enum.
use Rattle.std.specs.Prelude.{◌≡◌, ℕ, ◌<◌, ◌^◌}
use Rattle.postcard_wire.specs.Tree.{Variant}
use Rattle.postcard_wire.specs.declared.error.Error.{Error}
use Rattle.postcard_shape.specs.Shape.{Shape}

-- The value v, of the shape s, is written as the variant of this index with the content w, of the shape r.
pub record IsVariantOf {V W : Type 0} (s : Shape V) (v : V) (index : ℕ) (r : Shape W) (w : W) : Type 0 where
  pub tree : s.tree v ≡ Variant index (r.tree w)
  -- The value refuses itself at least by the errors by which its content does.
  pub refusal : (e : Error) → r.refusal w e → s.refusal v e
  -- The enum is written as a text that it prints, if the content is.
  pub text : r.text → s.text
  -- The value fits, if the index and the content do.
  pub fits : (index < 2 ^ 32) × r.fits w → s.fits v
