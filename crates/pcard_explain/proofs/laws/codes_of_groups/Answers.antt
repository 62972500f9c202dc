-- The law is a lemma of `GroupLemmas`.
use Rattle.std.proofs.Common.{ap, ◌∙◌}
use Rattle.std.specs.Prelude.{ℕ, List}
use Rattle.pcard_explain.specs.Notes.{frame_notes}
use Rattle.pcard_explain.proofs.GroupLemmas.{groups_shown}
use Rattle.pcard_explain.proofs.laws.codes_of_groups.Goals as goal

pub returns : goal.returns
returns c = λ F d groups. ap (λ (f : List ℕ). frame_notes 0 0 f) groups.frame_is ∙ groups_shown 0 groups.before groups.last groups.are groups.is
