-- Two cases: an option, and an enum whose first variant has no bytes.
use Rattle.std.proofs.Common.{◌≡◌, ◌<◌, length, get_or, subst, arith}
use Rattle.std.proofs.lemmas.Grind.{common_steps}
use Rattle.postcard_compat.specs.Parts.{parts_of}
use Rattle.postcard_compat.proofs.ByKind.{enum_as_option, option_as_option}
use Rattle.postcard_compat.proofs.row.option_content.Goals as goal

pub returns-in-Option : goal.returns-in-Option
returns-in-Option c = option_as_option c.args.schema.now c.deref.result.now c.in-Option.content c.in-Option.is c.deref.ensures

pub returns-else-len-gt0 : goal.returns-else-len-gt0
returns-else-len-gt0 c =
    let v = c.in-Enum.variants in
    let a = c.in_ok-absent-in-Enum.absent.now in
    let b = c.in_ok-present-in-Enum.present.now in
    let two : 1 < length c.deref-in-Enum-2.result.now = grind (arith, common_steps) in
    let none : length (parts_of c.of.result) ≡ 0 = omega arith in
    enum_as_option c.args.schema.now v a b (parts_of c.of.result) c.in-Enum.is
    (subst (λ xs. 1 < length xs) c.deref-in-Enum-2.ensures.value two)
    (subst (λ xs. a ≡ get_or xs 0 a) c.deref-in-Enum.ensures.value c.in_ok-absent-in-Enum.ensures.lookup.1)
    (subst (λ xs. b ≡ get_or xs 1 b) c.deref-in-Enum-2.ensures.value c.in_ok-present-in-Enum.ensures.lookup.1)
    c.of.ensures none
