-- A tuple of one part ends with `,)`, and any other with `)`.
use Rattle.std.proofs.Common.{◌≡◌, length, refl, ◌∙◌, arith}
use Rattle.std.proofs.lemmas.Grind.{common_steps}
use Rattle.postcard_value_text.proofs.Layouts.{ends_one, ends_other}
use Rattle.postcard_value_text.proofs.show.tuple_end.Goals as goal

pub returns-then-len-eq1 : goal.returns-then-len-eq1
returns-then-len-eq1 c =
    let ss = c.args.parts.now.items in
    let one : length ss ≡ 1 = grind (arith, common_steps) in
    rw (ends_one ss one) refl

pub returns-else-len-eq1 : goal.returns-else-len-eq1
returns-else-len-eq1 c =
    let ss = c.args.parts.now.items in
    let same : c.len.result ≡ length ss = grind (arith, common_steps) in
    rw (ends_other ss (λ one. c.if-len-eq1.false (same ∙ one))) refl
