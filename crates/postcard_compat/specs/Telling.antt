-- What the words of a program say.
use Rattle.std.specs.Prelude.{◌≡◌, ℕ, List, ◌++◌, map, pos, negsuc, string_bytes}
use Rattle.postcard_wire.specs.Tree.{Tree, Trees, Group, Then}
use Rattle.postcard_schema.specs.Leaves.{float_size}
use Rattle.postcard_compat.specs.Said.{Word}
use Rattle.postcard_compat.specs.Said as say
use Rattle.postcard_compat.specs.declared.word.Word.{Word as Spoken}
use Rattle.postcard_compat.specs.declared.word.Word.TheVariants.{Truth, Natural, Negative, Float, Letter, Phrase, Count, Index, End}

-- The word that a program holds.
abbrev pub word_of : Spoken → Word
word_of (Truth x) = say.Truth x
word_of (Natural n) = say.Number (pos n)
word_of (Negative n) = say.Number (negsuc n)
word_of (Float float bits) = say.Float (float_size float) bits
word_of (Letter c) = say.Letter c
word_of (Phrase text) = say.Phrase (string_bytes text)
word_of (Count n) = say.Count n
word_of (Index i) = say.Index i
word_of End = say.End

-- Words of the program, as those of the definition.
abbrev pub words_of : List Spoken → List Word
words_of = map word_of

-- Which kind of word it is: words of different kinds are different.
abbrev pub word_kind : Word → ℕ
word_kind (say.Truth x) = 0
word_kind (say.Number (pos n)) = 1
word_kind (say.Number (negsuc n)) = 2
word_kind (say.Float size bits) = 3
word_kind (say.Letter c) = 4
word_kind (say.Phrase bytes) = 5
word_kind (say.Count n) = 6
word_kind (say.Index i) = 7
word_kind say.End = 8

-- The new words are the old ones and then these.
abbrev pub Appends : List Spoken → List Spoken → List Word → Type 0
Appends old new more = words_of new ≡ words_of old ++ more

-- The tree is a group that begins with these two.
abbrev pub IsPair : Tree → Tree → Tree → Type 0
IsPair t first second = (more : Trees) × (t ≡ Group (Then first (Then second more)))
