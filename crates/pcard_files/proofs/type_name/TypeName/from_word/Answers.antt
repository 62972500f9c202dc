use Rattle.pcard_files.proofs.ColonLemmas.{without_at, split_word, whole_word}
use Rattle.pcard_files.proofs.type_name.TypeName.from_word.Goals as goal

pub returns-in_default-clause-none : goal.returns-in_default-clause-none
returns-in_default-clause-none c = λ file name. without_at c.args.word.now c.strip_prefix.result c.strip_prefix.ensures.cases c.in_default.is file name

pub returns-in-Some-rsplit_once-clause-found : goal.returns-in-Some-rsplit_once-clause-found
returns-in-Some-rsplit_once-clause-found c =
    split_word c.args.word.now c.strip_prefix.result c.in-Some.inner c.rsplit_once.result (c.in-Some-rsplit_once.file, c.in-Some-rsplit_once.name)
    c.strip_prefix.ensures.cases c.in-Some.is c.rsplit_once.ensures.cases c.in-Some-rsplit_once.is

pub returns-in-None-clause-found : goal.returns-in-None-clause-found
returns-in-None-clause-found c =
    whole_word c.args.word.now c.strip_prefix.result c.in-Some.inner c.rsplit_once.result
    c.strip_prefix.ensures.cases c.in-Some.is c.rsplit_once.ensures.cases c.in-None.is
