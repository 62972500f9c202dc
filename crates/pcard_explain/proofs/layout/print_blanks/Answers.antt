-- The first bytes of a text of 64 blanks are as many blanks as wanted, at most 64.
use Rattle.std.proofs.Common.{ap, subst, ◌∙◌, arith}
use Rattle.std.specs.Prelude.{replicate}
use Rattle.std.specs.Io.KnownBytes.{Appends}
use Rattle.std.proofs.lemmas.List.{take-replicate}
use Rattle.std.proofs.lemmas.Result.{on_ok_weaker}
use Rattle.pcard_explain.proofs.layout.print_blanks.Goals as goal

pub returns : goal.returns
returns g c =
    on_ok_weaker c.write_all.result
    (λ h. subst (λ t. Appends (g.W.Write.contents c.args.output.now) (g.W.Write.contents c.write_all.new.self) t)
    (c.split_at.ensures.front ∙ take-replicate c.min.result 64 32 (omega arith) ∙ ap (λ n. replicate n 32) c.min.ensures) h)
    c.write_all.ensures.bytes
