-- One entry more, for the byte before the last k.
use Rattle.std.proofs.Common.{◌*◌, ◌≤◌, length, map, subst, sym, pow_pos, arith}
use Rattle.std.proofs.lemmas.List.{drop_all}
use lib.Bits.{xor_lt}
use Rattle.crc.specs.Register.{IsSumFor}
use Rattle.crc.proofs.EightLemmas.{no_sum, entries_more}
use Rattle.crc.proofs.slice8.pick.Goals as goal

pub loop-k-init : goal.loop-k-init
loop-k-init g c =
    let n = 8 * g.W.Width.size in
    let all : length c.args.bytes.now ≤ 8 = omega (arith, c.requires.eight) in
    record {
      is = λ a valid served. subst (λ bs. IsSumFor n a bs 0) (sym (drop_all 8 c.args.bytes.now all)) (no_sum n a);
      fits = pow_pos n;
    }

pub loop-k-preserved : goal.loop-k-preserved
loop-k-preserved g c =
    let n = 8 * g.W.Width.size in
    let len = c.requires.eight in
    record {
      is = λ a valid served.
          let some = valid.some in
          let narrow = valid.narrow in
          let wide : 8 ≤ n = omega arith in
          entries_more n a wide valid (map g.W.Width.number c.args.entries.now) served c.args.bytes.now len (λ i. (c.type_inv.bytes i).fits) c.loop-k.k c.loop-k.sum c.look_up-sum.result c.loop-k-test.true
          c.look_up-sum.ensures.number (c.loop-k.invariant.is a valid served);
      fits = xor_lt n c.loop-k.sum c.look_up-sum.result c.loop-k.invariant.fits c.look_up-sum.ensures.fits;
    }
