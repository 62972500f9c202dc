-- The bytes of the checksum as a trailer, and the bytes after them.
use Rattle.std.proofs.Common.{◌∙◌, ℕ, List, ◌++◌, ap, sym}
use Rattle.std.proofs.lemmas.Result.{IfOk-weaker}
use Rattle.postcard_crc.proofs.Split.{too_short}
use Rattle.postcard_crc.proofs.de.after_checksum.Goals as goal

pub returns-then-rest-wanted-clause-accepts : goal.returns-then-rest-wanted-clause-accepts
returns-then-rest-wanted-clause-accepts g c after is =
    too_short g.W.Width.size c.trailer_of-wanted.result.len c.args.rest.now after (g.W.Width.number c.args.crc) c.trailer_of-wanted.ensures.len c.if-rest-wanted.true is

pub returns-clause-gives : goal.returns-clause-gives
returns-clause-gives g c =
    IfOk-weaker c.after_trailer.result _ _ (λ after h. h ∙ ap (λ (l : List ℕ). l ++ after.now) c.trailer_of-wanted.ensures.bytes) c.after_trailer.ensures.gives

pub returns-clause-accepts : goal.returns-clause-accepts
returns-clause-accepts g c after is =
    c.after_trailer.ensures.accepts after (is ∙ ap (λ (l : List ℕ). l ++ after) (sym c.trailer_of-wanted.ensures.bytes))
