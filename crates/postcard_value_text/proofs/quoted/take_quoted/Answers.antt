-- Each turn takes one piece of the quoted text, a byte or an escape. Where the call stops, no quoted text begins the text.
use Rattle.std.proofs.Common.{◌≡◌, ◌+◌, [], ◌∷◌, length, sym, ap, subst, ◌∙◌, true≢false, arith}
use Rattle.std.specs.Prelude.{IsUtf8}
use Rattle.std.proofs.lemmas.Grind.{common_steps}
use Rattle.postcard_value_text.proofs.Readers.{memory_passed}
use Rattle.postcard_value_text.proofs.Quotes.{quote_takes, quoted_end, plain_more, escape_more, escape_shorter}
use Rattle.postcard_value_text.proofs.QuotedFronts.{pieces_begin, no_quote, pieces_quote, pieces_plain, pieces_escape, pieces_not_ended, escape_read}
use Rattle.postcard_schema_text.proofs.Refusals.{is_empty}
use Rattle.postcard_value_text.proofs.quoted.take_quoted.Goals.{then-first-eq92+in_ok-take_escape, else-first-eq92+in_ok-push, in-Ok, in-Err}
use Rattle.postcard_value_text.proofs.quoted.take_quoted.Goals as goal

pub returns-then-not-take-clause-accepted : goal.returns-then-not-take-clause-accepted
returns-then-not-take-clause-accepted c = λ black plain held after utf8 h.
    absurd (no_quote c.args.quote held c.args.rest.now.now [] after black h (c.take.ensures.none c.if-not-take.true black))

pub loop-init : goal.loop-init
loop-init c =
    let none = c.new-bytes.ensures.items in
    let sign = c.take.ensures.taken c.if-not-take.false in
    record {
      taken = rw none (quote_takes c.args.quote c.args.rest.now.now c.take.new.rest.now sign);
      short = omega arith;
      left = λ black plain held after h. pieces_begin c.args.quote c.new-bytes.result.items held c.args.rest.now.now c.take.new.rest.now after black none sign h;
    }

pub returns-in_err-first-clause-accepted : goal.returns-in_err-first-clause-accepted
returns-in_err-first-clause-accepted c = λ black plain held after utf8 h.
    let l = c.loop in
    absurd (pieces_not_ended c.args.quote l.bytes.items held l.rest.now after (l.invariant.left black plain held after h) c.in_err-first.ensures.ended.1)

pub returns-then-first-quote : goal.returns-then-first-quote
returns-then-first-quote c =
    let l = c.loop in
    let next = c.in_ok-first.ensures.taken ∙ ap (λ b. b ∷ c.take_byte.new.rest.now) c.if-first-quote.true in
    let whole = quoted_end c.args.quote l.bytes.items c.args.rest.now.now l.rest.now c.take_byte.new.rest.now l.invariant.taken next in
    record {
      spelled = elim c.match-from_utf8.branch [
        | in-Ok w ↦ let is = w.in-Ok.ensures.ok in rw w.result-is (rw is whole)
        | in-Err w ↦ rw w.result-is tt
      ];
      accepted = λ black plain held after utf8 h.
          let k = pieces_quote c.args.quote l.bytes.items held l.rest.now c.take_byte.new.rest.now after plain (l.invariant.left black plain held after h) next in
          elim c.match-from_utf8.branch [
            | in-Ok w ↦ let is = w.in-Ok.ensures.ok in rw w.result-is (rw is (sym k.0, k.1))
            | in-Err w ↦ let bad = w.in-Err.ensures.succeeds (subst IsUtf8 k.0 utf8) in absurd (true≢false (sym bad))
          ];
    }

pub returns-in_err-take_escape-clause-accepted : goal.returns-in_err-take_escape-clause-accepted
returns-in_err-take_escape-clause-accepted c = λ black plain held after utf8 h.
    let l = c.loop in
    let next = c.in_ok-first.ensures.taken ∙ ap (λ b. b ∷ c.take_byte.new.rest.now) c.if-first-eq92.true in
    let k = pieces_escape c.args.quote l.bytes.items held l.rest.now c.take_byte.new.rest.now after plain (l.invariant.left black plain held after h) next in
    memory_passed _ c.from_residual-in_err-take_escape.result _ c.from_residual-in_err-take_escape.ensures.1 (c.in_err-take_escape.ensures.accepted k.bytes k.after k.taken)

pub returns-in_err-push-clause-accepted : goal.returns-in_err-push-clause-accepted
returns-in_err-push-clause-accepted c = λ black plain held after utf8 h.
    memory_passed _ c.from_residual-in_err-push.result _ c.from_residual-in_err-push.ensures.1 c.in_err-push.ensures.only_out_of_memory

pub returns-clause-accepted : goal.returns-clause-accepted
returns-clause-accepted c = λ black plain held after utf8 h.
    let l = c.loop in
    let none : l.rest.now ≡ [] = is_empty l.rest.now (omega (arith, l.invariant.short, c.loop-test.false)) in
    absurd (pieces_not_ended c.args.quote l.bytes.items held l.rest.now after (l.invariant.left black plain held after h) none)

pub loop-preserved : goal.loop-preserved
loop-preserved c =
    let l = c.loop in
    let one : length l.rest.now ≡ length c.take_byte.new.rest.now + 1 = ap length c.in_ok-first.ensures.taken ∙ grind (arith, common_steps) in
    elim c.if-first-eq92.branch [
      | then-first-eq92+in_ok-take_escape w ↦
          let next = c.in_ok-first.ensures.taken ∙ ap (λ b. b ∷ c.take_byte.new.rest.now) w.if-first-eq92.true in
          let less = escape_shorter l.bytes.items w.take_escape.new.bytes.items c.take_byte.new.rest.now w.take_escape.new.rest.now w.in_ok-take_escape.ensures.taken in
          rw (w.rest-is, w.bytes-is) record {
            taken = escape_more c.args.quote l.bytes.items w.take_escape.new.bytes.items c.args.rest.now.now l.rest.now c.take_byte.new.rest.now w.take_escape.new.rest.now l.invariant.taken next w.in_ok-take_escape.ensures.taken;
            short = omega (arith, one, less, l.invariant.short);
            left = λ black plain held after h.
                let k = pieces_escape c.args.quote l.bytes.items held l.rest.now c.take_byte.new.rest.now after plain (l.invariant.left black plain held after h) next in
                escape_read c.args.quote l.bytes.items w.take_escape.new.bytes.items held c.take_byte.new.rest.now w.take_escape.new.rest.now after k (w.in_ok-take_escape.ensures.accepted k.bytes k.after k.taken);
          }
      | else-first-eq92+in_ok-push w ↦
          rw (w.rest-is, w.bytes-is) record {
            taken = rw w.in_ok-push.ensures.added (plain_more c.args.quote c.in_ok-first.first l.bytes.items c.args.rest.now.now l.rest.now c.take_byte.new.rest.now l.invariant.taken c.in_ok-first.ensures.taken c.if-first-quote.false w.if-first-eq92.false);
            short = omega (arith, one, l.invariant.short);
            left = λ black plain held after h. rw w.in_ok-push.ensures.added
                (pieces_plain c.args.quote c.in_ok-first.first l.bytes.items held l.rest.now c.take_byte.new.rest.now after (l.invariant.left black plain held after h) c.in_ok-first.ensures.taken c.if-first-quote.false w.if-first-eq92.false);
          }
    ]
