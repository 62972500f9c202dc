-- Where in a file an error is.
use Rattle.std.specs.Prelude.{ℕ, List}
use Rattle.postcard_source.specs.Places.{IsPlace}
use Rattle.pcard_impl.specs.declared.error.ImplError.{ImplError}

-- The line and the column of the error are those of a place in the file.
abbrev pub IsIn : List ℕ → ImplError → Type 0
IsIn file e = (k : ℕ) × IsPlace file k e.line e.column
