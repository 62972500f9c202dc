-- No bit is set if and only if no byte is zero.
use Rattle.std.proofs.Common.{take, drop, sym, ◌∙◌, eq-eqb}
use Rattle.std.proofs.lemmas.Bool.{eqb-true}
use Rattle.postcard_cobs.proofs.Searching.{free_by_bits, bits_of_free}
use Rattle.postcard_cobs.proofs.decode.is_free.Goals as goal

pub returns : goal.returns
returns g c =
    let xs = take g.row.SIZE (drop c.args.at c.args.buf.now) in (
      λ t. free_by_bits xs (sym c.zeros_at.ensures ∙ eqb-true c.zeros_at.result 0 t),
      λ z. eq-eqb c.zeros_at.result 0 (c.zeros_at.ensures ∙ bits_of_free xs z),
    )
