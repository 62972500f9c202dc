-- The lines that the walk added, with a line of the bytes after the value, have each byte. If the walk stopped, its last line has the bytes
-- from there on.
use Rattle.postcard_explain.proofs.LineLemmas.{all_explained, all_bytes, all_refused}
use Rattle.postcard_explain.proofs.explanation.explain.Goals as goal

pub returns-in-Ok-clause-read : goal.returns-in-Ok-clause-read
returns-in-Ok-clause-read c = λ none.
    let last = c.in_ok-push_rest-in-Ok.ensures.added in
    all_explained c.args.most c.args.schema.now c.args.bytes.now c.in-Ok.rest.now _ _ _ last.0 c.new.ensures.items c.in-Ok.ensures last.1 last.2 last.3

pub returns-in-Ok-clause-every_byte : goal.returns-in-Ok-clause-every_byte
returns-in-Ok-clause-every_byte c =
    let last = c.in_ok-push_rest-in-Ok.ensures.added in
    all_bytes _ c.args.schema.now c.args.bytes.now _
    (all_explained _ c.args.schema.now c.args.bytes.now c.in-Ok.rest.now _ _ _ last.0 c.new.ensures.items c.in-Ok.ensures last.1 last.2 last.3)

pub returns-clause-every_byte : goal.returns-clause-every_byte
returns-clause-every_byte c =
    (all_refused c.args.most c.args.schema.now c.args.bytes.now _ _ c.in-Err.error c.new.ensures.items c.in-Err.ensures c.in_default.not-OutOfMemory).0

pub returns-clause-stopped : goal.returns-clause-stopped
returns-clause-stopped c =
    let h = all_refused c.args.most c.args.schema.now c.args.bytes.now _ _ c.in-Err.error c.new.ensures.items c.in-Err.ensures c.in_default.not-OutOfMemory in
    (h.2, c.in-Err.ensures.0, c.in_default.not-OutOfMemory)

pub returns-clause-stopped_lines : goal.returns-clause-stopped_lines
returns-clause-stopped_lines c =
    (all_refused c.args.most c.args.schema.now c.args.bytes.now _ _ c.in-Err.error c.new.ensures.items c.in-Err.ensures c.in_default.not-OutOfMemory).1
