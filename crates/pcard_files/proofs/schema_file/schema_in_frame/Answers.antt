use Rattle.pcard_files.proofs.schema_file.schema_in_frame.Goals as goal

pub returns-in_default-2-clause-refused : goal.returns-in_default-2-clause-refused
returns-in_default-2-clause-refused c =
    let none = rw c.in_default-2.is at c.in_ok-content.ensures.none in
    (c.requires, (c.in-Some.frame.now, c.in-Some.ensures.some, λ content is. none c.in-Some.ensures.some.0 content is))
