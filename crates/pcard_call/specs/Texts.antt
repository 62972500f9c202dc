-- The lines that say why words are no call.
use Rattle.std.specs.Prelude.{ℕ, List, ◌++◌, codes}
use Rattle.pcard_call.specs.declared.misuse.Misuse.{Misuse}
use Rattle.pcard_call.specs.declared.misuse.Misuse.TheVariants.{NoVerb, UnknownVerb, UnknownOption, Untaken, Twice, NoValue, BadValue, Operands}
use Rattle.pcard_call.specs.Words.{verb_name}
use Rattle.pcard_call.specs.Options.{option_name, usage_of, value_of}

-- The line that says why words are no call.
abbrev pub misuse_text : Misuse → List ℕ
misuse_text NoVerb = codes "a command is missing; pcard --help prints the calls"
misuse_text (UnknownVerb word) = codes "unknown command " ++ (word.now ++ codes ": there are enc, dec, decs, frames, explain, size, key, compat, crc, types, impl, c, python and demo")
misuse_text (UnknownOption verb word) = codes "unknown option " ++ (word.now ++ (codes "; " ++ (verb_name verb ++ (codes " takes " ++ usage_of verb))))
misuse_text (Untaken verb option) = verb_name verb ++ (codes " takes no " ++ (option_name option ++ (codes ", but " ++ usage_of verb)))
misuse_text (Twice option) = option_name option ++ codes " stands twice"
misuse_text (NoValue option) = option_name option ++ (codes " takes " ++ value_of option)
misuse_text (BadValue option word) = option_name option ++ (codes " takes " ++ (value_of option ++ (codes ", and not " ++ word.now)))
misuse_text (Operands verb) = verb_name verb ++ (codes " takes " ++ usage_of verb)
