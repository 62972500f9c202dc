-- If no bit is set for a byte of 128 or more, there is none.
use Rattle.std.proofs.Common.{◌∙◌, ◌≤◌, ◌^◌, ◌%◌, ap, arith, length, map, sym}
use Rattle.std.proofs.lemmas.Simd.{tops_compared, zip2_splat_left, mask_l-mod, length-chunk, none_from_empty_mask}
use Rattle.std.proofs.lemmas.List.{length-map}
use Rattle.std.proofs.lemmas.Bool.{eqb-true, leb-false}
use Rattle.std.specs.Simd.Lanes.{mask_l}
use lib.Dec.{leb}
use lib.Lanes.{chunk}
use mir.Syntax.{w8}
use Rattle.postcard_wire.proofs.text.is_ascii_at.Goals as goal

pub returns : goal.returns
returns g c t k from to =
    let bytes = c.args.bytes.now in
    let window = chunk c.args.at g.row.SIZE bytes in
    let long = length-chunk c.args.at g.row.SIZE bytes c.requires.inside in
    let few : length (map (λ b. leb 128 b) window) ≤ 64 =
    omega (arith, length-map window (λ b. leb 128 b), long, c.requires.few) in
    let bits = ap (λ ms. mask_l ms % 2 ^ 64)
    (tops_compared w8 leb _ window ∙ zip2_splat_left leb 128 g.row.SIZE window long) in
    let none = sym (bits ∙ mask_l-mod _ 64 few) ∙ eqb-true _ 0 t in
    leb-false 128 _ (none_from_empty_mask (λ b. leb 128 b) bytes c.args.at g.row.SIZE 0 c.requires.inside none k from to)
