-- The messages of a set of trees are messages of each set that covers it, since covering means the same encodings.
use Rattle.std.proofs.Common.{ℕ, List}
use Rattle.postcard_wire.specs.Tree.{Tree}
use Rattle.postcard_described.specs.Within.{Covered}
use Rattle.postcard_described.specs.Messages.{IsMessage}

-- A message of a covered set is one of the covering set.
pub message_inside : {F G : Tree → Type 0} → Covered F G → (p : List ℕ) → IsMessage F p → IsMessage G p
message_inside h p (t, r, s) = let (u, g, k) = h t r in (u, g, k.there p s)
