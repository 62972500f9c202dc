-- A `,` is taken only after a part. Then the bracket must be next.
use Rattle.std.proofs.Common.{◌≡◌, refl, sym, subst}
use Rattle.postcard_schema_text.specs.FrontLemmas.{takes_split}
use Rattle.postcard_schema_text.specs.Phrases.{takes_two}
use Rattle.postcard_value_text.specs.{IsMaybe, IsSign, TakesPhrase, Unless}
use Rattle.postcard_value_text.proofs.Fronts.{maybe_left, takes_none, none_taken, maybe_taken}
use Rattle.std.proofs.lemmas.Result.{on_ok_weaker}
use Rattle.postcard_value_text.proofs.words.close_parts.Goals.{then-not-are_none, else-not-are_none}
use Rattle.postcard_value_text.proofs.words.close_parts.Goals as goal

pub returns-clause-taken : goal.returns-clause-taken
returns-clause-taken c =
    let a = c.args.rest.now.now in
    let b = c.if-not-are_none.rest.now in
    let comma : TakesPhrase (Unless c.args.are_none (IsMaybe 44)) a b = elim c.if-not-are_none.branch [
      | then-not-are_none w ↦ rw (w.if-not-are_none.true, w.rest-is) (maybe_taken w.take.result a w.take.new.rest.now w.take.ensures.taken w.take.ensures.left)
      | else-not-are_none w ↦ rw (w.if-not-are_none.false, w.rest-is) (takes_none a)
    ] in
    on_ok_weaker c.expect.result (takes_two (Unless c.args.are_none (IsMaybe 44)) (IsSign c.args.closing) a b c.expect.new.rest.now comma)
    c.expect.ensures.taken

pub returns-clause-accepted : goal.returns-clause-accepted
returns-clause-accepted c = λ after black differs h.
    let a = c.args.rest.now.now in
    let b = c.if-not-are_none.rest.now in
    let k = takes_split (Unless c.args.are_none (IsMaybe 44)) (IsSign c.args.closing) a after h in
    let sign : TakesPhrase (IsSign c.args.closing) b after = elim c.if-not-are_none.branch [
      | then-not-are_none w ↦
          let first : TakesPhrase (IsMaybe 44) a k.0 = subst (λ n. TakesPhrase (Unless n (IsMaybe 44)) a k.0) w.if-not-are_none.true k.1 in
          rw w.rest-is (maybe_left w.take.result c.args.closing a w.take.new.rest.now k.0 after black differs first k.2 w.take.ensures.taken w.take.ensures.left (λ other. w.take.ensures.none other refl))
      | else-not-are_none w ↦
          let same : a ≡ k.0 = none_taken a k.0 (subst (λ n. TakesPhrase (Unless n (IsMaybe 44)) a k.0) w.if-not-are_none.false k.1) in
          rw w.rest-is (subst (λ t. TakesPhrase (IsSign c.args.closing) t after) (sym same) k.2)
    ] in
    c.expect.ensures.accepted after black sign
