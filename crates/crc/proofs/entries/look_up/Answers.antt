-- The number of the element.
use Rattle.std.proofs.Common.{ap, sym, ◌∙◌}
use Rattle.std.proofs.lemmas.List.{get_or-map}
use Rattle.crc.proofs.entries.look_up.Goals as goal

pub returns-clause-number : goal.returns-clause-number
returns-clause-number g c =
    c.to_u128.ensures.number ∙ ap g.W.Width.number c.index-entries-at.is ∙ sym (get_or-map g.W.Width.number c.args.entries.now c.args.at c.index-entries-at.result 0 c.requires)
