use Rattle.std.proofs.Common.{string_bytes, sym, ap, subst, ◌∙◌, arith, Global}
use Rattle.pcard_files.proofs.InputLemmas.{StripsAt, two_words, names_file, names_none, without_raw, without_bytes, without_operand}
use Rattle.pcard_files.proofs.operand.input_name.Goals as goal
use Rattle.pcard_files.proofs.operand.input_name.Goals.{then-not-call-via-then-not-call, then-not-call-via-else-not-call+then-not-reads_bytes}

pub returns-in_default-clause-none : goal.returns-in_default-clause-none
returns-in_default-clause-none c = λ file names. c.in_default.ensures.none _ _ _ names.call

pub returns-then-not-call-clause-none : goal.returns-then-not-call-clause-none
returns-then-not-call-clause-none c =
    let only = c.in-Some.ensures.one in
    elim c.then-not-call.branch [
      | then-not-call-via-then-not-call w ↦ without_raw _ _ _ _ only w.if-not-call.true
      | then-not-call-via-else-not-call+then-not-reads_bytes w ↦ without_bytes _ _ _ _ only (sym w.reads_bytes.ensures ∙ w.if-not-reads_bytes.true)
    ]

pub returns-then-call-ne2-clause-none : goal.returns-then-call-ne2-clause-none
returns-then-call-ne2-clause-none c = without_operand (string_bytes {Z = Global}) c.in-Some.call.operands.now _ _ _ c.in-Some.ensures.one (λ two. omega (arith, two))

pub returns-clause-none : goal.returns-clause-none
returns-clause-none c =
    let w = c.index-call-1.result in
    let (kind, all) = two_words (string_bytes {Z = Global}) c.in-Some.call.operands.now w c.if-call-ne2.false c.index-call-1.is in
    let strips = subst (λ v. StripsAt v c.strip_prefix.result) (c.as_str.ensures.value ∙ ap (string_bytes {Z = Global}) (sym c.index-call-1.is)) c.strip_prefix.ensures.cases in
    names_none _ _ _ _ kind (string_bytes w) c.strip_prefix.result c.in-Some.ensures.one all strips

pub returns-clause-found : goal.returns-clause-found
returns-clause-found c =
    let w = c.index-call-1.result in
    let (kind, all) = two_words (string_bytes {Z = Global}) c.in-Some.call.operands.now w c.if-call-ne2.false c.index-call-1.is in
    let strips = subst (λ v. StripsAt v c.strip_prefix.result) (c.as_str.ensures.value ∙ ap (string_bytes {Z = Global}) (sym c.index-call-1.is)) c.strip_prefix.ensures.cases in
    names_file _ _ _ _ kind (string_bytes w) c.strip_prefix.result c.in-Some.ensures.call c.if-not-call.false (sym c.reads_bytes.ensures ∙ c.if-not-reads_bytes.false) all strips
