-- Each turn reads one word. The first word that is wrong is where the words are wrong.
use Rattle.std.proofs.Common.{sym, ◌∙◌}
use Rattle.std.proofs.lemmas.Result.{err_from_is_err_and}
use Rattle.pcard_bytes.specs.Hexadecimal.{IsWord, IsWrongWord, is_separator}
use Rattle.pcard_bytes.proofs.PastedLemmas.{up_to-step, up_to-end, up_to-refused, up_to-refused_last}
use Rattle.pcard_bytes.proofs.pasted.read_words.Goals as goal

pub returns-in_err-read_word-clause-refused : goal.returns-in_err-read_word-clause-refused
returns-in_err-read_word-clause-refused c =
    let p = err_from_is_err_and c.from_residual.result c.from_residual.ensures.1 in
    rw (p.1, p.2)
    (up_to-refused IsWord IsWrongWord is_separator _ _ _ c.args.text.now c.args.place _ _ c.words.invariant (sym c.end_of_word.ensures ∙ c.in-Some.is) c.in_err-read_word.ensures.refused)

pub words-preserved : goal.words-preserved
words-preserved c =
    up_to-step IsWord IsWrongWord is_separator _ _ _ _ _ _ _ c.words.invariant (sym c.end_of_word.ensures ∙ c.in-Some.is) c.in_ok-read_word.ensures.value c.deref.ensures.value
    c.in_ok-extend_from_slice.ensures.items

pub returns-in_err-read_word-2-clause-refused : goal.returns-in_err-read_word-2-clause-refused
returns-in_err-read_word-2-clause-refused c =
    let p = err_from_is_err_and c.from_residual-in_err-read_word-2.result c.from_residual-in_err-read_word-2.ensures.1 in
    rw (p.1, p.2)
    (up_to-refused_last IsWord IsWrongWord is_separator _ _ _ c.args.text.now c.args.place _ c.words.invariant (sym c.end_of_word.ensures ∙ c.in_default.is) c.in_err-read_word-2.ensures.refused)

pub returns-clause-value : goal.returns-clause-value
returns-clause-value c =
    up_to-end IsWord IsWrongWord is_separator _ _ _ _ _ _ c.words.invariant (sym c.end_of_word.ensures ∙ c.in_default.is) c.in_ok-read_word-2.ensures.value c.deref-2.ensures.value
    c.in_ok-extend_from_slice-2.ensures.items
