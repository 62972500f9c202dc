use Rattle.pcard_files.proofs.FileLemmas.{wrong_in}
use Rattle.pcard_files.proofs.type_name.declared.Goals as goal

pub returns-in-Err-clause-refused : goal.returns-in-Err-clause-refused
returns-in-Err-clause-refused c =
    wrong_in c.args.name.now c.args.bytes.now c.in-Ok.text.now c.in-Err.error c.fault_of.result
    c.in-Ok.ensures.cases.0 c.in-Err.ensures.problem c.in-Err.ensures.place c.fault_of.ensures
