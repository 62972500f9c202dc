-- The head and then the text, cut to the columns that are left, are the row.
use Rattle.std.proofs.Common.{[], ◌∷◌, ◌++◌, refl, arith, length-append}
use Rattle.std.proofs.KnownBytes.{Appends-trans}
use Rattle.std.proofs.lemmas.Result.{on_ok_weaker}
use Rattle.pcard_explain.specs.Layouts.{head_text}
use Rattle.pcard_explain.proofs.layout.print_row.Goals as goal

pub returns : goal.returns
returns g c =
    let layout = c.args.layout in
    let columns = c.in_ok-head.ensures in
    let head = head_text layout c.args.at c.args.depth c.args.bytes.now in
    on_ok_weaker c.print_cut.result
    (λ shown. (
      head ++ (shown.0 ++ 10 ∷ []),
      (
        shown.0,
        shown.1,
        refl,
        λ cut. omega (
          arith,
          columns.counted cut,
          columns.bounded,
          shown.2 cut (omega (arith, columns.bounded)),
          length-append head (shown.0 ++ 10 ∷ []),
          length-append shown.0 (10 ∷ []),
        ),
      ),
      Appends-trans _ _ _ _ _ columns.printed shown.3,
    ))
    c.print_cut.ensures
