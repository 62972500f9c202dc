-- The pieces that are written are the value's line.
use Rattle.std.proofs.Common.{Some, [], ◌∷◌, ◌++◌}
use Rattle.std.proofs.KnownBytes.{Appends-trans}
use Rattle.std.proofs.lemmas.Result.{on_ok_weaker}
use Rattle.postcard_value.specs.Tree.{tree}
use Rattle.postcard_value_text.specs.Layout.{layout_of}
use Rattle.postcard_value_text.specs.Shown.{text}
use Rattle.pcard_print.specs.Lines.{more_text}
use Rattle.pcard_print.proofs.LineLemmas.{prints_both}
use Rattle.pcard_print.proofs.value_line.print_text.Goals as goal

pub returns : goal.returns
returns g c =
    on_ok_weaker c.write_all.result
    (λ h. prints_both (text (layout_of c.args.schema.now) (tree c.args.value.now)) (Some (more_text c.args.rest.now ++ 10 ∷ [])) _ _ _ c.in_ok-print_gathered.ensures
    (Appends-trans _ _ _ _ _ c.in_ok-print_more.ensures h))
    c.write_all.ensures.bytes
