-- No line that was passed is one of `hexdump -C`, so the remaining lines decide.
use Rattle.std.proofs.Common.{◌==◌, sym, ◌∙◌, ◌+◌, arith}
use Rattle.std.proofs.lemmas.List.Quantifiers.{position-Some}
use Rattle.pcard_bytes.specs.Hexadecimal.{is_dump, is_of_hexdump}
use Rattle.pcard_bytes.proofs.PastedLemmas.{any-first, any-after, any-last, after_fits}
use Rattle.pcard_bytes.proofs.pasted.is_dump.Goals as goal

pub returns-then-is_of_hexdump : goal.returns-then-is_of_hexdump
unfolding is_dump
returns-then-is_of_hexdump c =
    sym (c.lines.invariant.same ∙ any-first is_of_hexdump (λ b. b == 10) _ _ (sym c.end_of_line.ensures ∙ c.in-Some.is) (sym c.is_of_hexdump.ensures.is ∙ c.if-is_of_hexdump.true))

pub overflow_add-rest : goal.overflow_add-rest
overflow_add-rest c =
    let low = (position-Some (λ b. b == 10) c.lines.rest.now c.in-Some.end 0 (sym c.end_of_line.ensures ∙ c.in-Some.is)).0 in
    omega (arith, low)

pub lines-preserved : goal.lines-preserved
lines-preserved c = record {
  same = c.lines.invariant.same
      ∙ any-after is_of_hexdump (λ b. b == 10) _ _ (sym c.end_of_line.ensures ∙ c.in-Some.is) (sym c.is_of_hexdump.ensures.is ∙ c.if-is_of_hexdump.false);
  fits = let behind = after_fits (c.in-Some.end + 1) c.lines.rest.now in omega (arith, behind);
}

pub returns : goal.returns
unfolding is_dump
returns c =
    c.is_of_hexdump-2.ensures.is ∙ sym (c.lines.invariant.same ∙ any-last is_of_hexdump (λ b. b == 10) _ (sym c.end_of_line.ensures ∙ c.in_default.is))
