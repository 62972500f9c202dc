-- The bytes so far are those of the words before the remaining text. Each turn takes a word.
use Rattle.std.proofs.Common.{length}
use Rattle.pcard_bytes.specs.Hexadecimal.{IsWord, IsWrongWord, is_separator}
use Rattle.pcard_bytes.proofs.PastedLemmas.{IsReadUpTo}
use Rattle.pcard_bytes.proofs.pasted.read_words.Given as goal

abbrev pub invariant-words : goal.invariant-words
invariant-words l = IsReadUpTo IsWord IsWrongWord is_separator l.words l.bytes.items l.rest

abbrev pub decreases-words : goal.decreases-words
decreases-words l = length l.rest
