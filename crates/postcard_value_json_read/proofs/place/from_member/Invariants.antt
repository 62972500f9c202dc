-- Either the last member with the name is still ahead in the text, or it was found and all members ahead have other names. After the last
-- member it was found.
use Rattle.std.proofs.Common.{◌≡◌, List, ℕ, length}
use Rattle.postcard_value_json_read.specs.Parts.{IsMemberAt}
use Rattle.postcard_value_json_read.specs.Values.{IsEndOf}
use Rattle.postcard_value_json_read.proofs.MemberLemmas.{TurnEnds}
use Rattle.postcard_value_json_read.proofs.place.from_member.Given as goal

abbrev pub invariant-members : goal.invariant-members
invariant-members l = record {
  member : (rest : List ℕ) → IsMemberAt l.fn.name l.fn.object rest → TurnEnds l.fn.name l.rest l.found rest l.more;
  found : IsEndOf l.fn.object l.found;
  left : IsEndOf l.fn.object l.rest;
}

abbrev pub decreases-members : goal.decreases-members
decreases-members l = length l.rest
