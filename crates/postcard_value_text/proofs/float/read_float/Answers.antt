-- The bits that are read are those that the text denotes. A float that `show_float` wrote is read back as the same bits.
use Rattle.std.proofs.Common.{◌≡◌, ℕ, List, codes, sym, ap, refl, subst, ◌∙◌, true≢false}
use Rattle.std.proofs.lemmas.Bool.Decides.{Decides-eqb}
use Rattle.std.proofs.lemmas.Slice.Eq.{slice_eq-Decides}
use Rattle.postcard_value_text.specs.{AreNan, IsSign, TakesPhrase, format_of}
use Rattle.postcard_value_text.proofs.FloatTexts.{float_taken, nan_taken, parsed, parsed_code, parsed_number, one_float, at_most_64}
use Rattle.postcard_value_text.proofs.float.read_float.Goals.{else-eq-via-then-eq+else-take, else-eq-via-else-eq}
use Rattle.postcard_value_text.proofs.float.read_float.Goals as goal

pub returns-in_err-bits-clause-reads_back : goal.returns-in_err-bits-clause-reads_back
returns-in_err-bits-clause-reads_back c = λ bits after h end.
    let f = format_of c.args.float in
    let n = c.take_number-word in
    let p = parsed f bits c.args.rest.now.now n.result.now n.new.rest.now after n.ensures.first.0 n.ensures.bytes n.ensures.whole n.ensures.first.1 n.ensures.first.2 h end in
    let k = parsed_code f bits n.result.now n.new.rest.now after c.take.new.rest.now p end (c.take.ensures.taken c.if-take.true) in
    absurd (c.in_err-bits.ensures.reads_back bits after (at_most_64 c.args.float bits k.0) k.1)

pub returns-then-are_nan-clause-spelled : goal.returns-then-are_nan-clause-spelled
returns-then-are_nan-clause-spelled c =
    let n = c.take_number-word in
    let named : n.result.now ≡ codes "nan" = (slice_eq-Decides Decides-eqb _ _ _ c.eq.ensures).0 c.if-eq.true ∙ c.as_slice.ensures in
    nan_taken (format_of c.args.float) c.in_ok-bits.bits n.result.now c.args.rest.now.now n.new.rest.now c.take.new.rest.now c.read_code.new.rest.now
    (c.are_nan.ensures.nan c.if-are_nan.true) named n.ensures.taken (c.take.ensures.taken c.if-take.true) c.in_ok-bits.ensures.spelled

pub returns-then-are_nan-clause-reads_back : goal.returns-then-are_nan-clause-reads_back
returns-then-are_nan-clause-reads_back c = λ bits after h end.
    let f = format_of c.args.float in
    let n = c.take_number-word in
    let p = parsed f bits c.args.rest.now.now n.result.now n.new.rest.now after n.ensures.first.0 n.ensures.bytes n.ensures.whole n.ensures.first.1 n.ensures.first.2 h end in
    let k = parsed_code f bits n.result.now n.new.rest.now after c.take.new.rest.now p end (c.take.ensures.taken c.if-take.true) in
    c.in_ok-bits.ensures.reads_back bits after (at_most_64 c.args.float bits k.0) k.1

pub returns-then-take-clause-reads_back : goal.returns-then-take-clause-reads_back
returns-then-take-clause-reads_back c = λ bits after h end.
    let f = format_of c.args.float in
    let n = c.take_number-word in
    let p = parsed f bits c.args.rest.now.now n.result.now n.new.rest.now after n.ensures.first.0 n.ensures.bytes n.ensures.whole n.ensures.first.1 n.ensures.first.2 h end in
    let k = parsed_code f bits n.result.now n.new.rest.now after c.take.new.rest.now p end (c.take.ensures.taken c.if-take.true) in
    let found = c.in_ok-bits.ensures.reads_back bits after (at_most_64 c.args.float bits k.0) k.1 in
    absurd (c.are_nan.ensures.other c.if-are_nan.false (subst (AreNan f) (sym found.0) k.0))

pub returns-in-Some-clause-spelled : goal.returns-in-Some-clause-spelled
returns-in-Some-clause-spelled c =
    let n = c.take_number-word in
    let left : c.else-eq.rest.now ≡ n.new.rest.now = elim c.else-eq.branch [
      | else-eq-via-then-eq+else-take w ↦ ap (λ r. r.now) w.rest-is ∙ w.take.ensures.left w.if-take.false
      | else-eq-via-else-eq w ↦ ap (λ r. r.now) w.rest-is
    ] in
    rw left (float_taken (format_of c.args.float) c.in-Some.bits n.result.now c.args.rest.now.now n.new.rest.now c.in-Some.ensures.found n.ensures.taken)

pub returns-in-Some-clause-reads_back : goal.returns-in-Some-clause-reads_back
returns-in-Some-clause-reads_back c = λ bits after h end.
    let f = format_of c.args.float in
    let n = c.take_number-word in
    let p = parsed f bits c.args.rest.now.now n.result.now n.new.rest.now after n.ensures.first.0 n.ensures.bytes n.ensures.whole n.ensures.first.1 n.ensures.first.2 h end in
    let none : n.result.now ≡ codes "nan" → (mid : List ℕ) → TakesPhrase (IsSign 40) n.new.rest.now mid → ⊥ = λ is mid sign. elim c.else-eq.branch [
      | else-eq-via-then-eq+else-take w ↦ w.take.ensures.none w.if-take.false refl mid sign
      | else-eq-via-else-eq w ↦ true≢false (sym ((slice_eq-Decides Decides-eqb _ _ _ c.eq.ensures).1 (is ∙ sym c.as_slice.ensures)) ∙ w.if-eq.false)
    ] in
    let left : c.else-eq.rest.now ≡ n.new.rest.now = elim c.else-eq.branch [
      | else-eq-via-then-eq+else-take w ↦ ap (λ r. r.now) w.rest-is ∙ w.take.ensures.left w.if-take.false
      | else-eq-via-else-eq w ↦ ap (λ r. r.now) w.rest-is
    ] in
    let k = parsed_number f bits n.result.now n.new.rest.now after p none in
    (one_float f c.in-Some.bits bits n.result.now c.in-Some.ensures.found k.0, left ∙ k.1)

pub returns-in-None-clause-reads_back : goal.returns-in-None-clause-reads_back
returns-in-None-clause-reads_back c = λ bits after h end.
    let f = format_of c.args.float in
    let n = c.take_number-word in
    let p = parsed f bits c.args.rest.now.now n.result.now n.new.rest.now after n.ensures.first.0 n.ensures.bytes n.ensures.whole n.ensures.first.1 n.ensures.first.2 h end in
    let none : n.result.now ≡ codes "nan" → (mid : List ℕ) → TakesPhrase (IsSign 40) n.new.rest.now mid → ⊥ = λ is mid sign. elim c.else-eq.branch [
      | else-eq-via-then-eq+else-take w ↦ w.take.ensures.none w.if-take.false refl mid sign
      | else-eq-via-else-eq w ↦ true≢false (sym ((slice_eq-Decides Decides-eqb _ _ _ c.eq.ensures).1 (is ∙ sym c.as_slice.ensures)) ∙ w.if-eq.false)
    ] in
    c.in-None.ensures.none bits (parsed_number f bits n.result.now n.new.rest.now after p none).0
