-- The digits of a tenth of the number, and then the last digit.
use Rattle.std.proofs.Common.{◌≡◌, ◌+◌, ◌^◌, ◌/◌, ◌%◌, ◌<◌, ◌≤◌, [], ◌∷◌, sym, subst, ap, ◌∙◌, arith}
use Rattle.std.proofs.lemmas.Fmt.{decimal_digit, decimal_step}
use Rattle.std.specs.Fmt.{decimal}
use Rattle.postcard_key.specs.Keys.{Continues}
use Rattle.postcard_key.proofs.Steps.{then_text, with_text}
use Rattle.postcard_key.proofs.text.+add_count.Goals as goal
use Rattle.postcard_key.proofs.text.+add_count.Goals.{then-count-ge10, else-count-ge10}

pub returns : goal.returns
returns t c =
    let n = c.args.count in
    let small : n < 2 ^ 64 = omega arith in
    let last : Continues c.if-count-ge10.digest ((48 + n % 10) ∷ []) c.update.new.self = record { takes = c.update.ensures } in
    elim c.if-count-ge10.branch [
      | then-count-ge10 w ↦ let high : 10 ≤ n = w.if-count-ge10.true in
          with_text (sym (decimal_step n high small)) (then_text (subst (λ d. Continues c.args.digest.now (decimal (n / 10)) d) (sym w.digest-is) w.add_count.ensures) last)
      | else-count-ge10 w ↦ let low : n < 10 = w.if-count-ge10.false in
          let same : 48 + n % 10 ≡ 48 + n = omega arith in
          with_text (ap (λ k. k ∷ []) same ∙ sym (decimal_digit n low)) (subst (λ d. Continues d ((48 + n % 10) ∷ []) c.update.new.self) w.digest-is last)
    ]
