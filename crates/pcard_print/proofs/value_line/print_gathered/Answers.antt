-- A text that was gathered is written in one piece, which appends the same bytes.
use Rattle.std.proofs.lemmas.Result.{on_ok_weaker}
use Rattle.postcard_value.specs.Tree.{tree}
use Rattle.postcard_value_text.specs.Layout.{layout_of}
use Rattle.postcard_value_text.specs.Shown.{text}
use Rattle.pcard_print.proofs.LineLemmas.{gathered}
use Rattle.pcard_print.proofs.value_line.print_gathered.Goals as goal

pub returns-in-Ok : goal.returns-in-Ok
returns-in-Ok g c =
    on_ok_weaker c.write_all.result
    (λ h. gathered _ (λ line. line.bytes) (λ line more longer so. so) (text (layout_of c.args.shown.schema.now) (tree c.args.shown.value.now)) _ _ _ _ c.new-line.ensures
    c.in-Ok.ensures.writes h)
    (rw (c.as_bytes.ensures.value, c.as_str.ensures.value) at c.write_all.ensures.bytes)
