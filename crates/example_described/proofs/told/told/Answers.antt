-- The host was given the schema of reports and the message of this report, so it reads the report's tree.
use Rattle.std.proofs.Common.{[], refl, sym, subst, ◌∙◌}
use Rattle.std.proofs.lemmas.List.{append-nil}
use Rattle.postcard_schema.specs.Meaning.{MessageType, type_of}
use Rattle.postcard_described_host.specs.Agreement.{HostTakes}
use Rattle.postcard_described_host.proofs.Readers.{host_takes}
use Rattle.example_described.proofs.told.told.Goals as goal

pub returns : goal.returns
returns c =
    let bytes = c.deref.result.now in
    let host = c.take_from_bytes.result in
    let e = c.take_from_bytes.ensures in
    let takes = subst (λ (m : MessageType). HostTakes m bytes host) c.in_ok-schema.ensures.typed
    (host_takes (type_of c.in_ok-schema.schema) bytes host e.gives e.accepts e.reads_back e.named_error) in
    let sent = c.deref.ensures.value ∙ c.in_ok-message.ensures.gives in
    let read = c.host_reads_written.ensures.same_tree c.args.report.now bytes [] host c.in_ok-message.ensures.fits (sent ∙ sym (append-nil _)) takes in
    record { same_encodings = (rw c.in_ok-value.was at read).0 }
