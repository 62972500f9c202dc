-- The text so far is the words so far, each with a blank after it.
use Rattle.std.proofs.Common.{◌≡◌, take, string_bytes}
use Rattle.postcard_source.specs.Tokens.{spelling}
use Rattle.postcard_source.proofs.place.spelled.Given as goal

abbrev pub invariant-loop-word : goal.invariant-loop-word
invariant-loop-word l = string_bytes l.text ≡ spelling (take l.word-index l.words)
