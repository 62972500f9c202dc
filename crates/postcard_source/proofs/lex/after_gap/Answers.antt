use Rattle.std.proofs.lemmas.Result.{IfOk-weaker}
use Rattle.postcard_source.proofs.Decided.{if_none}
use Rattle.postcard_source.proofs.Gaps.{no_gap}
use Rattle.postcard_source.proofs.lex.after_gap.Goals as goal

pub returns-clause-none : goal.returns-clause-none
returns-clause-none c =
    IfOk-weaker c.after_block_comment.result _ _
    (λ found. if_none found (no_gap c.args.text.now c.in_default.ensures.none c.in_default-after_line_comment.ensures.none c.in_default-after_lifetime.ensures.none)) c.after_block_comment.ensures.none
