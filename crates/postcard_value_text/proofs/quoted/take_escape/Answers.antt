-- A letter is a short escape, or `u` and a code. Where the call stops, no escape begins the text.
use Rattle.std.proofs.Common.{◌∷◌, [], ◌++◌, sym, ap, subst, ◌∙◌}
use Rattle.std.specs.Char.{encode_utf8}
use Rattle.postcard_value_text.specs.{IsEscape, TakesPhrase}
use Rattle.postcard_value_text.proofs.Readers.{reads_as}
use Rattle.std.proofs.lemmas.Result.{on_ok_weaker}
use Rattle.postcard_value_text.proofs.Quotes.{short_takes, code_escape}
use Rattle.postcard_value_text.proofs.QuotedFronts.{code_of, letter_of, one_byte, escape_not_ended}
use Rattle.postcard_value_text.proofs.quoted.take_escape.Goals as goal

pub returns-in_err-letter-clause-accepted : goal.returns-in_err-letter-clause-accepted
returns-in_err-letter-clause-accepted c = λ held after h.
    absurd (escape_not_ended held after (subst (λ t. TakesPhrase (IsEscape held) t after) c.in_err-letter.ensures.ended.1 h))

pub returns-in_err-c-clause-accepted : goal.returns-in_err-c-clause-accepted
returns-in_err-c-clause-accepted c = λ held after h.
    let next = c.in_ok-letter.ensures.taken ∙ ap (λ b. b ∷ c.take_byte.new.rest.now) c.if-letter-eq117.true in
    let k = code_of held c.args.rest.now.now c.take_byte.new.rest.now after h next in
    absurd (c.in_err-c.ensures.accepted k.character after k.taken)

pub returns-then-letter-eq117-clause-taken : goal.returns-then-letter-eq117-clause-taken
returns-then-letter-eq117-clause-taken c =
    let next = c.in_ok-letter.ensures.taken ∙ ap (λ b. b ∷ c.take_byte.new.rest.now) c.if-letter-eq117.true in
    on_ok_weaker c.push_character.result (λ added.
    code_escape c.in_ok-c.c c.args.bytes.now.items c.push_character.new.bytes.items c.args.rest.now.now c.take_byte.new.rest.now c.take_code.new.rest.now added next c.in_ok-c.ensures.code)
    c.push_character.ensures.added

pub returns-then-letter-eq117-clause-accepted : goal.returns-then-letter-eq117-clause-accepted
returns-then-letter-eq117-clause-accepted c = λ held after h.
    let next = c.in_ok-letter.ensures.taken ∙ ap (λ b. b ∷ c.take_byte.new.rest.now) c.if-letter-eq117.true in
    let k = code_of held c.args.rest.now.now c.take_byte.new.rest.now after h next in
    let read = c.in_ok-c.ensures.accepted k.character after k.taken in
    let same = ap encode_utf8 read.0 ∙ sym k.is in
    reads_as c.push_character.result (λ added. (added ∙ ap (λ t. c.args.bytes.now.items ++ t) same, read.1)) c.push_character.ensures.added c.push_character.ensures.only_out_of_memory

pub returns-in-Some-clause-taken : goal.returns-in-Some-clause-taken
returns-in-Some-clause-taken c =
    on_ok_weaker c.push.result (λ added.
    short_takes c.in_ok-letter.letter c.in-Some.byte c.args.bytes.now.items c.push.new.bytes.items c.args.rest.now.now c.take_byte.new.rest.now c.in-Some.ensures.found added c.in_ok-letter.ensures.taken)
    c.push.ensures.added

pub returns-in-Some-clause-accepted : goal.returns-in-Some-clause-accepted
returns-in-Some-clause-accepted c = λ held after h.
    let k = letter_of c.in_ok-letter.letter held c.args.rest.now.now c.take_byte.new.rest.now after h c.in_ok-letter.ensures.taken c.if-letter-eq117.false in
    let same = ap (λ b. b ∷ []) (one_byte c.in_ok-letter.letter c.in-Some.byte k.byte c.in-Some.ensures.found k.stands) ∙ sym k.is in
    reads_as c.push.result (λ added. (added ∙ ap (λ t. c.args.bytes.now.items ++ t) same, k.left)) c.push.ensures.added c.push.ensures.only_out_of_memory

pub returns-in-None-clause-accepted : goal.returns-in-None-clause-accepted
returns-in-None-clause-accepted c = λ held after h.
    let k = letter_of c.in_ok-letter.letter held c.args.rest.now.now c.take_byte.new.rest.now after h c.in_ok-letter.ensures.taken c.if-letter-eq117.false in
    absurd (c.in-None.ensures.none k.byte k.stands)
