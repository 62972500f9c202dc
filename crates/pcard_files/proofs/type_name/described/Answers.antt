use Rattle.pcard_files.proofs.FileLemmas.{unwritable_in}
use Rattle.pcard_files.proofs.type_name.described.Goals as goal

pub returns-clause-refused : goal.returns-clause-refused
returns-clause-refused c =
    unwritable_in c.args.bytes.now c.in_ok-schema.schema c.in-Err.error c.fault_of_text.result
    c.in_ok-schema.ensures.described c.in-Err.ensures.refused c.fault_of_text.ensures
