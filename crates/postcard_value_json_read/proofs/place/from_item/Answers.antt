-- Each turn skips one value and the `,` after it, so the wanted item is one value nearer.
use Rattle.std.proofs.Common.{◌≡◌, ℕ, suc, ◌+◌, ◌-◌, List, ◌++◌, refl, sym, ap, ◌∙◌, subst, arith}
use Rattle.postcard_schema_text.specs.Text.{TakesPhrase, IsSign, unblank}
use Rattle.postcard_schema_text.specs.FrontLemmas.{takes_split, trim_is}
use Rattle.postcard_value_json_read.specs.Parts.{AreValues}
use Rattle.postcard_value_json_read.proofs.Ends.{blanks_off, end_of_end, sign_off}
use Rattle.postcard_value_json_read.proofs.PartLemmas.{Skips, item_less, sign_taken}
use Rattle.postcard_value_json_read.proofs.place.from_item.Goals as goal

pub loop-init : goal.loop-init
loop-init c =
    let text = c.args.array.now in
    let a = c.take.new.rest.now in
    let b = c.skip_blanks.new.rest.now in
    record {
      item = λ items h.
          let (left, sign, values) = takes_split (IsSign 91) (AreValues c.args.index) text items h in
          let got = sign_taken c.take.result 91 text a left refl c.take.ensures.taken c.take.ensures.none sign in
          let whole : c.args.index - 0 ≡ c.args.index = omega arith in
          (a, subst (λ k. TakesPhrase (AreValues k) a items) (sym whole) (subst (λ t. TakesPhrase (AreValues c.args.index) t items) (sym got.1) values), trim_is a b c.skip_blanks.ensures);
      end = end_of_end text a b (sign_off c.take.result 91 text a c.take.ensures.taken c.take.ensures.left) (blanks_off a b c.skip_blanks.ensures);
    }

pub loop-preserved : goal.loop-preserved
loop-preserved c =
    let text = c.args.array.now in
    let a = c.after_value-rest.result.now in
    let b = c.take-in-loop.new.rest.now in
    let d = c.skip_blanks-in-loop.new.rest.now in
    record {
      item = λ items h.
          let (left, values, is) = c.loop.invariant.item items h in
          let n = c.args.index - (c.loop.counter + 1) in
          let more : c.args.index - c.loop.counter ≡ suc n = omega arith in
          let skips = subst (λ t. Skips t a) is c.after_value-rest.ensures.after in
          let next = item_less n left items a b c.take-in-loop.result (subst (λ k. TakesPhrase (AreValues k) left items) more values) skips c.take-in-loop.ensures.taken c.take-in-loop.ensures.none in
          (b, next, trim_is b d c.skip_blanks-in-loop.ensures);
      end =
          let e = end_of_end text c.loop.rest.now a c.loop.invariant.end c.after_value-rest.ensures.end in
          let f = end_of_end text a b e (sign_off c.take-in-loop.result 44 a b c.take-in-loop.ensures.taken c.take-in-loop.ensures.left) in
          end_of_end text b d f (blanks_off b d c.skip_blanks-in-loop.ensures);
    }

-- No value is before the item.
at_item : (n : ℕ) (left items : List ℕ) → n ≡ 0 → TakesPhrase (AreValues n) left items → left ≡ items
at_item n left items none h = let (front, is, whole) = subst (λ k. TakesPhrase (AreValues k) left items) none h in whole ∙ ap (λ t. t ++ items) is

pub returns-clause-item : goal.returns-clause-item
returns-clause-item c = λ rest (items, h, at).
    let (left, values, is) = c.loop.invariant.item items h in
    is ∙ ap unblank (at_item (c.args.index - c.loop.counter) left items (omega arith) values) ∙ sym at
