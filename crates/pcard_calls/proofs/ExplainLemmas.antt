-- Which rows `explain` prints: those of a frame if the format has frames, and else those of a message's data.
use Rattle.std.proofs.Common.{◌≡◌, sym, subst, ℕ, Bool, true, false, List, Option}
use Rattle.pcard_message.specs.declared.format.Format.{Format}
use Rattle.pcard_calls.specs.Explain.{PrintsFrameRows, PrintsRowsIn, PrintsRowsOf}

module _ (format : Format) (all : Bool) (bytes : List ℕ) (old new : Option (List ℕ)) where
  -- If the format has frames, the printed rows of a frame are the rows of the format.
  pub framed_rows : format.framed ≡ true → PrintsFrameRows format all bytes old new → PrintsRowsIn format.framed format all bytes old new
  framed_rows framed rows = subst (λ b. PrintsRowsIn b format all bytes old new) (sym framed) rows

  -- If the format has no frames, the printed rows of data are the rows of the format.
  pub data_rows : format.framed ≡ false → PrintsRowsOf format all bytes old new → PrintsRowsIn format.framed format all bytes old new
  data_rows framed rows = subst (λ b. PrintsRowsIn b format all bytes old new) (sym framed) rows
