use Rattle.postcard_source.proofs.Files.{problem_moved}
use Rattle.postcard_source.proofs.expression.Goals as goal

pub returns-in-Err-clause-problem : goal.returns-in-Err-clause-problem
returns-in-Err-clause-problem c =
    problem_moved c.args.file.now c.as_bytes.result.now c.args.name.now c.as_bytes-2.result.now c.in-Err.problem_at.problem _ c.as_bytes.ensures.value c.as_bytes-2.ensures.value
    c.error_at.ensures.problem c.in-Err.ensures.problem
