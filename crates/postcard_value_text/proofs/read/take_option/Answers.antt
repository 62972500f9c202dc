-- The next word is `None`, or `Some`, or neither.
use Rattle.std.proofs.Common.{true, false, codes, arith}
use Rattle.postcard_schema_text.specs.Phrases.{word_more}
use Rattle.postcard_value_text.proofs.Choices.{option_none, option_one}
use Rattle.postcard_value_text.proofs.read.take_option.Goals as goal

pub returns-then-take_name-clause-taken : goal.returns-then-take_name-clause-taken
returns-then-take_name-clause-taken c =
    word_more (codes "None") _ _ _ c.skip_blanks.ensures (rw c.as_slice.ensures at (c.take_name.ensures.taken c.if-take_name.true))

pub returns-then-take_name-clause-accepted : goal.returns-then-take_name-clause-accepted
returns-then-take_name-clause-accepted c =
    option_one false _ _ _ c.skip_blanks.ensures (rw c.as_slice.ensures at (c.take_name.ensures.taken c.if-take_name.true))
    (λ b h ends. c.take_name.ensures.one c.if-take_name.true (rw c.as_slice.ensures (omega arith)) b (rw c.as_slice.ensures h) ends)

pub returns-then-take_name-2-clause-taken : goal.returns-then-take_name-2-clause-taken
returns-then-take_name-2-clause-taken c =
    let left = c.take_name.ensures.left c.if-take_name.false in
    word_more (codes "Some") _ _ _ c.skip_blanks.ensures (rw (c.as_slice-2.ensures, left) at (c.take_name-2.ensures.taken c.if-take_name-2.true))

pub returns-then-take_name-2-clause-accepted : goal.returns-then-take_name-2-clause-accepted
returns-then-take_name-2-clause-accepted c =
    let left = c.take_name.ensures.left c.if-take_name.false in
    option_one true _ _ _ c.skip_blanks.ensures (rw (c.as_slice-2.ensures, left) at (c.take_name-2.ensures.taken c.if-take_name-2.true))
    (λ b h ends. c.take_name-2.ensures.one c.if-take_name-2.true (rw c.as_slice-2.ensures (omega arith)) b (rw (c.as_slice-2.ensures, left) h) ends)

pub returns-clause-accepted : goal.returns-clause-accepted
returns-clause-accepted c =
    let left = c.take_name.ensures.left c.if-take_name.false in
    option_none _ _ c.skip_blanks.ensures
    (λ b h ends. c.take_name-2.ensures.none c.if-take_name-2.false (rw c.as_slice-2.ensures (omega arith)) b (rw (c.as_slice-2.ensures, left) h) ends)
    (λ b h ends. c.take_name.ensures.none c.if-take_name.false (rw c.as_slice.ensures (omega arith)) b (rw c.as_slice.ensures h) ends)
