-- The line of the value and then that of the bytes after it are written.
use Rattle.std.proofs.Common.{Some, [], ◌∷◌, ◌++◌}
use Rattle.std.proofs.KnownBytes.{Appends-trans}
use Rattle.std.proofs.lemmas.Result.{on_ok_weaker}
use Rattle.hex.specs.Hex.{encode_lower}
use Rattle.pcard_print.specs.Lines.{value_text}
use Rattle.pcard_print.proofs.LineLemmas.{prints_both}
use Rattle.pcard_print.proofs.value_line.print_two.Goals as goal

pub returns : goal.returns
returns g c =
    on_ok_weaker c.write_all.result
    (λ h. prints_both (value_text c.args.schema.now c.args.value.now c.args.rest.now) (Some (encode_lower c.args.after.now ++ 10 ∷ [])) _ _ _ c.in_ok-print_text.ensures
    (Appends-trans _ _ _ _ _ c.in_ok-write_hex.ensures h))
    c.write_all.ensures.bytes
