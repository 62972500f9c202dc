-- Which types without parts are named by one word.
use Rattle.std.specs.Prelude.{Bool, true, false}
use Rattle.postcard_schema.specs.declared.leaf.Leaf.{Leaf}
use Rattle.postcard_schema.specs.declared.leaf.Leaf.TheVariants.{Fixed}

-- All but numbers at their full width, as `LE<u16>`.
abbrev pub is_word : Leaf → Bool
is_word (Fixed order integer) = false
is_word leaf = true
