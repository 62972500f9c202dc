-- An entry is skipped as its key and then its value.
use Rattle.std.proofs.Common.{◌++◌, sym, ap, ◌∙◌, append_assoc}
use Rattle.std.proofs.lemmas.Result.{IfOk-weaker}
use Rattle.postcard_schema.specs.Meaning.{type_of}
use Rattle.postcard_value.proofs.FrontLemmas.{entry_spelled}
use Rattle.postcard_explain.proofs.PartLemmas.{entry_cut}
use Rattle.postcard_explain.proofs.row.skip_item.Goals as goal

pub returns-in_ok-rest-in-Entry-clause-skipped : goal.returns-in_ok-rest-in-Entry-clause-skipped
returns-in_ok-rest-in-Entry-clause-skipped c =
    let k = type_of c.in-Entry.key.now in
    let v = type_of c.in-Entry.value.now in
    let one = c.in_ok-rest-in-Entry.ensures.skipped in
    IfOk-weaker c.skip-in-Entry-2.result _ _
    (λ rest h. (one.0 ++ h.0, rw c.in-Entry.is (entry_spelled k v one.0 h.0 one.1 h.1), one.2 ∙ ap (λ q. one.0 ++ q) h.2 ∙ sym (append_assoc one.0 h.0 rest.now)))
    c.skip-in-Entry-2.ensures.skipped

pub returns-in_ok-rest-in-Entry-clause-accepts : goal.returns-in_ok-rest-in-Entry-clause-accepts
returns-in_ok-rest-in-Entry-clause-accepts c = λ front rest f cut.
    let k = type_of c.in-Entry.key.now in
    let v = type_of c.in-Entry.value.now in
    let e = entry_cut k v front (rw c.in-Entry.is at f) in
    c.skip-in-Entry-2.ensures.accepts e.1 rest e.3
    (c.in_ok-rest-in-Entry.ensures.accepts e.0 (e.1 ++ rest) e.2 (cut ∙ ap (λ x. x ++ rest) e.4 ∙ append_assoc e.0 e.1 rest))
