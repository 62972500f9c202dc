-- The lowest bit stands for the first zero.
use Rattle.std.proofs.Common.{◌≡◌, ℕ, List, eqb, eq-eqb, map, length, take, drop, sym, ◌∙◌, true, false}
use Rattle.std.proofs.lemmas.Simd.{first_set_mask_l, length-chunk}
use Rattle.std.proofs.lemmas.Bool.{ne_eqb}
use Rattle.std.specs.Simd.Lanes.{mask_l}
use Rattle.postcard_cobs.proofs.Searching.{counted}
use Rattle.postcard_cobs.proofs.decode.run_at.Goals as goal

pub returns-then-zeros-eq0 : goal.returns-then-zeros-eq0
returns-then-zeros-eq0 g c =
    let xs : List ℕ = take g.row.SIZE (drop c.args.at c.args.buf.now) in
    let long : length xs ≡ g.row.SIZE = length-chunk c.args.at g.row.SIZE c.args.buf.now c.requires.inside in
    let none : eqb (mask_l (map (λ x. eqb x 0) xs)) 0 ≡ true =
    eq-eqb _ 0 (sym c.zeros_at-zeros.ensures ∙ c.if-zeros-eq0.true) in
    let first = first_set_mask_l (λ x. eqb x 0) xs g.row.SIZE long c.requires.few in
    rw none at (first ∙ counted xs)

pub returns : goal.returns
returns g c =
    let xs : List ℕ = take g.row.SIZE (drop c.args.at c.args.buf.now) in
    let long : length xs ≡ g.row.SIZE = length-chunk c.args.at g.row.SIZE c.args.buf.now c.requires.inside in
    let some : eqb (mask_l (map (λ x. eqb x 0) xs)) 0 ≡ false =
    ne_eqb _ 0 (λ e. c.if-zeros-eq0.false (c.zeros_at-zeros.ensures ∙ e)) in
    let first = first_set_mask_l (λ x. eqb x 0) xs g.row.SIZE long c.requires.few in
    rw c.zeros_at-zeros.ensures (rw some at (first ∙ counted xs))
