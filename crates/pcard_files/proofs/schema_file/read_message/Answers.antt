use Rattle.std.proofs.Common.{sym, subst, ◌∙◌}
use Rattle.pcard_files.specs.SchemaFile.{BeginsWith}
use Rattle.pcard_files.proofs.MessageLemmas.{nodes_refused, none_left, some_left}
use Rattle.pcard_files.proofs.schema_file.read_message.Goals as goal

pub returns-then-not-is_empty : goal.returns-then-not-is_empty
returns-then-not-is_empty c =
    (c.in-Ok.read.0, c.in-Ok.read.1.now, c.in-Ok.ensures.gives, some_left c.in-Ok.read.1.now (sym c.is_empty.ensures ∙ c.if-not-is_empty.true))

pub returns-in-Ok-schema_of : goal.returns-in-Ok-schema_of
returns-in-Ok-schema_of c = let none = none_left c.in-Ok.read.1.now (sym c.is_empty.ensures ∙ c.if-not-is_empty.false) in record {
  nodes = c.in-Ok.read.0;
  encoded = subst (BeginsWith c.args.bytes.now c.in-Ok.read.0) none c.in-Ok.ensures.gives;
  are = c.in-Ok-schema_of.ensures.sent;
}

pub returns-in_ok-fault_of-in-Err-schema_of : goal.returns-in_ok-fault_of-in-Err-schema_of
returns-in_ok-fault_of-in-Err-schema_of c =
    nodes_refused c.args.bytes.now c.in-Ok.read.0 c.in-Ok.read.1.now c.in-Err-schema_of.problem c.in_ok-fault_of-in-Err-schema_of.field-0
    c.in-Ok.ensures.gives (sym c.is_empty.ensures ∙ c.if-not-is_empty.false) c.in_ok-fault_of-in-Err-schema_of.ensures c.in-Err-schema_of.ensures.refused
