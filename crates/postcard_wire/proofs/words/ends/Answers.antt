use Rattle.std.proofs.Common.{◌≡◌, ◌∙◌, take, length, arith, sym, ap, List, ℕ}
use Rattle.std.proofs.lemmas.List.{length-take-le, get_or-take}
use Rattle.std.proofs.lemmas.Simd.{bitmask_splat}
use lib.Dec.{ltb}
use mir.Syntax.{w8}
use Rattle.postcard_wire.proofs.Runs.{all_low, take_fewer}
use Rattle.postcard_wire.proofs.words.ends.Goals as goal

pub returns : goal.returns
returns c all k h =
    let xs = take 64 (take 64 c.args.block.now) in
    let twice = take_fewer 64 64 c.args.block.now (omega arith) in
    let long = length-take-le 64 c.args.block.now (omega (arith, c.told-block)) in
    let whole : length xs ≡ 64 = ap (λ (z : List ℕ). length z) twice ∙ long in
    let m = sym (bitmask_splat w8 ltb xs 64 128 whole (omega arith)) ∙ all in
    let low = all_low xs (rw (whole, m) (omega arith)) k (omega (arith, whole, h)) in
    rw (twice, get_or-take 64 c.args.block.now k 0 h) at low
