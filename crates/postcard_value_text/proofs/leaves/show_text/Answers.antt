-- A string that needs no escapes has the same text as its escaped form, so it may be printed in one piece.
use Rattle.std.proofs.Common.{◌≡◌, true, Some, [], ◌∷◌, sym, ◌∙◌}
use Rattle.std.specs.List.{list_all}
use Rattle.std.proofs.Output.{displays_on_ok_of_eq}
use Rattle.postcard_value_text.specs.Shown.{stands_for_itself}
use Rattle.postcard_value_text.proofs.Joined.{encloses}
use Rattle.postcard_value_text.proofs.PlainTexts.{plain_text}
use Rattle.postcard_value_text.proofs.leaves.show_text.Goals as goal

pub returns : goal.returns
returns g c =
    let all : list_all stands_for_itself c.args.text.now ≡ true = rw c.as_bytes.ensures.value at (sym c.is_plain.ensures ∙ c.if-not-is_plain.false) in
    displays_on_ok_of_eq g.W.Write.write_str_gives _ _ _ _ _ (sym (plain_text c.args.text.now all))
    (encloses g.W.Write.write_str_gives c.args.f.now c.write_str.new.self c.write_str-2.new.self c.write_str-3.new.self c.write_str-3.result (34 ∷ []) (34 ∷ [])
    (Some c.args.text.now) c.in_ok-write_str.ensures.writes c.in_ok-write_str-2.ensures.writes c.write_str-3.ensures.writes)
