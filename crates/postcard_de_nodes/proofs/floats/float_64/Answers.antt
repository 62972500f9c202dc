use Rattle.std.proofs.Common.{◌≡◌, ◌∙◌, length, ap, arith}
use Rattle.std.specs.Float.{binary64}
use Rattle.std.specs.Float.Ieee.{of_bits}
use Rattle.postcard_shape.proofs.Floats.{f64_read}
use Rattle.postcard_de_nodes.specs.SeenLemmas.{recast}
use Rattle.postcard_de_nodes.proofs.floats.float_64.Goals as goal

pub returns : goal.returns
returns g c =
    let bs = c.in_ok-bytes.bytes in
    let long : length bs ≡ 8 = omega arith in
    let e = c.f64_from_bits_with_nan.ensures ∙ ap (of_bits binary64) c.from_le_bytes.ensures in
    record {
      reads = recast (λ t h. f64_read t bs _ long e h) c.in_ok-bytes.ensures.reads;
      refused = tt;
    }
