-- The octets of an address that is made of sixteen octets are these.
use Rattle.std.proofs.Common.{◌≡◌, ap, ◌∙◌, arith}
use Rattle.std.specs.Net.Addr.{octets_of}
use Rattle.postcard_de.proofs.Addresses.{octets_back}
use Rattle.postcard_de.proofs.values.net.Ipv6AddrFromRepr.from_repr.Goals as goal

pub returns : goal.returns
returns c =
    ap octets_of c.from_octets.ensures
    ∙ octets_back 8 c.in_range.result (omega arith) c.in_range.ensures.range
    ∙ c.in_range.ensures.same
