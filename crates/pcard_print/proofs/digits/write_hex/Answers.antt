-- Each turn writes the digits of one piece of at most 64 bytes.
use Rattle.std.proofs.Common.{[], ◌++◌, refl}
use Rattle.std.proofs.KnownBytes.{Appends-nil}
use Rattle.pcard_print.proofs.DigitLemmas.{encode_lower-nil, appends-piece, cut_again}
use Rattle.pcard_print.proofs.digits.write_hex.Goals as goal

pub pieces-init : goal.pieces-init
pieces-init g c = ([], refl, rw encode_lower-nil (Appends-nil _))

pub pieces-preserved : goal.pieces-preserved
pieces-preserved g c =
    let before = c.pieces.invariant in (
      before.0 ++ c.split_at.result.0.now,
      cut_again _ before.0 _ _ _ _ before.1 c.split_at.ensures.front c.split_at.ensures.back,
      appends-piece _ _ _ before.0 _ before.2 c.in_ok-write_piece.ensures,
    )
