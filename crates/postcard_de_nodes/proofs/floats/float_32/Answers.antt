use Rattle.std.proofs.Common.{◌≡◌, ◌∙◌, length, ap, arith}
use Rattle.std.specs.Float.{binary32}
use Rattle.std.specs.Float.Ieee.{of_bits}
use Rattle.postcard_shape.proofs.Floats.{f32_read}
use Rattle.postcard_de_nodes.specs.SeenLemmas.{recast}
use Rattle.postcard_de_nodes.proofs.floats.float_32.Goals as goal

pub returns : goal.returns
returns g c =
    let bs = c.in_ok-bytes.bytes in
    let long : length bs ≡ 4 = omega arith in
    let e = c.f32_from_bits_with_nan.ensures ∙ ap (of_bits binary32) c.from_le_bytes.ensures in
    record {
      reads = recast (λ t h. f32_read t bs _ long e h) c.in_ok-bytes.ensures.reads;
      refused = tt;
    }
