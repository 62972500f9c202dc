use Rattle.std.proofs.Common.{map, string_bytes, subst, sym, Global}
use Rattle.pcard_files.specs.TypeName.{IsNameWord, bytes_of}
use Rattle.pcard_files.proofs.CallLemmas.{no_name}
use Rattle.pcard_files.proofs.WordLemmas.{word_at}
use Rattle.pcard_files.proofs.call.named_type.Goals as goal

pub returns-in_default-clause-none : goal.returns-in_default-clause-none
returns-in_default-clause-none c = λ i file name names. c.in_default.ensures.none i names.0

pub returns-in-Some-from_word-clause-found : goal.returns-in-Some-from_word-clause-found
returns-in-Some-from_word-clause-found c =
    let w = c.index-words-index.result in
    let at = word_at (string_bytes {Z = Global}) c.args.words.now c.in-Some.index w c.in-Some.ensures.inside c.index-words-index.is in
    let name = c.in-Some-from_word.name in
    (c.in-Some.ensures.found, (string_bytes w, at, subst (λ v. IsNameWord v name.file.now (bytes_of name.name)) c.as_str.ensures.value c.in-Some-from_word.ensures.found))

pub returns-in-None-clause-none : goal.returns-in-None-clause-none
returns-in-None-clause-none c =
    let w = c.index-words-index.result in
    let at = word_at (string_bytes {Z = Global}) c.args.words.now c.in-Some.index w c.in-Some.ensures.inside c.index-words-index.is in
    no_name (map (string_bytes {Z = Global}) c.args.words.now) c.in-Some.index (string_bytes w) c.in-Some.ensures.one at
    (λ file name named. c.in-None.ensures.none file name (subst (λ v. IsNameWord v file name) (sym c.as_str.ensures.value) named))
