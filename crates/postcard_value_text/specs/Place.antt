-- The place of an error in a text.
use Rattle.std.specs.Prelude.{ℕ, ◌+◌, ◌≤◌, List}
use Rattle.postcard_schema_text.specs.Text.{characters}
use Rattle.postcard_value_text.specs.declared.error.TextError.{TextError}
use Rattle.postcard_value_text.specs.declared.error.TextError.TheVariants.{NotAValue, OutOfMemory}

-- The place is the number of a character of the text, counted from 1, or the next number after the last.
abbrev pub IsPlaceIn : List ℕ → TextError → Type 0
IsPlaceIn text (NotAValue character expected) = (1 ≤ character) × (character ≤ characters text + 1)
IsPlaceIn text OutOfMemory = Unit {0}
