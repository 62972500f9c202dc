-- The schema of the host has the messages of the type.
use Rattle.std.proofs.Common.{subst}
use Rattle.postcard_schema.specs.Meaning.{MessageType, type_of}
use Rattle.postcard_described.specs.Within.{within_same}
use Rattle.postcard_described_host.specs.Agreement.{HostTakes}
use Rattle.postcard_described_host.proofs.Readers.{all_agree, host_takes, values_agree}
use Rattle.postcard_described_host.proofs.readings.read_as_both.Goals as goal

pub returns-clause-host_reads : goal.returns-clause-host_reads
returns-clause-host_reads g c =
    let bytes = c.args.bytes.now in
    let host = c.take_from_bytes-host.result in
    let e = c.take_from_bytes-host.ensures in
    subst (λ (m : MessageType). HostTakes m bytes host) c.in_ok-schema.ensures.typed
    (host_takes (type_of c.in_ok-schema.schema) bytes host e.gives e.accepts e.reads_back e.named_error)

pub returns-clause-agree_on_values : goal.returns-clause-agree_on_values
returns-clause-agree_on_values g c =
    let d = g.T.HasSchema.described in
    values_agree g.T.Shaped.shape d.message (within_same g.met.T.HasSchema.same d.within).inside c.args.bytes.now
    c.take_from_bytes-device.result c.take_from_bytes-host.result c.take_from_bytes-device.ensures (returns-clause-host_reads g c)

pub returns-clause-agree_if_exact : goal.returns-clause-agree_if_exact
returns-clause-agree_if_exact g c is_exact =
    let d = g.T.HasSchema.described in
    all_agree g.T.Shaped.shape d.message d.exact (within_same g.met.T.HasSchema.same d.within) is_exact c.args.bytes.now
    c.take_from_bytes-device.result c.take_from_bytes-host.result c.take_from_bytes-device.ensures (returns-clause-host_reads g c)
