-- The text is printed in three pieces: the part's name, a separator and the value.
use Rattle.postcard_value_text.proofs.Joined.{displays_failed, two_then}
use Rattle.pcard_explain.specs.Told.{title_text, separator_text, kind_text}
use Rattle.pcard_explain.proofs.told.ToldDisplay.fmt.Goals as goal

pub returns-in_err-show_title-clause-writes : goal.returns-in_err-show_title-clause-writes
returns-in_err-show_title-clause-writes g c = displays_failed g.W.Write.write_str_gives _ _ _ _ c.from_residual.ensures.0

pub returns-in_err-write_str-clause-writes : goal.returns-in_err-write_str-clause-writes
returns-in_err-write_str-clause-writes g c = displays_failed g.W.Write.write_str_gives _ _ _ _ c.from_residual-in_err-write_str.ensures.0

pub returns-clause-writes : goal.returns-clause-writes
returns-clause-writes g c =
    let line = c.args.self.now.0.now in
    two_then g.W.Write.write_str_gives c.args.f.now c.show_title.new.f c.write_str.new.self c.show_kind.new.f c.show_kind.result (title_text line.label)
    (separator_text line.label line.kind) (kind_text line.kind) c.in_ok-show_title.ensures (rw c.separator.ensures at c.in_ok-write_str.ensures.writes) c.show_kind.ensures
