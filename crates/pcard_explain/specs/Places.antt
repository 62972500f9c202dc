-- The path of each line of an explanation.
use Rattle.std.specs.Prelude.{◌≡◌, ℕ, ◌≤◌, nat_lt, if◌then◌else◌, List, [], ◌∷◌, ◌++◌, length, take, Option, None, Some}
use Rattle.postcard_schema.specs.Paths.{PlainStep, at_name, at_part, at_element, plain_path, plain_step}
use Rattle.postcard_schema.specs.declared.path.Step.{Step}
use Rattle.postcard_explain.specs.declared.line.Label.{Label}
use Rattle.postcard_explain.specs.declared.line.Label.TheVariants.{Whole, Field, Part, Element}
use Rattle.postcard_explain.specs.declared.line.LineKind.{LineKind}
use Rattle.postcard_explain.specs.declared.line.LineKind.TheVariants.{Variant}
use Rattle.postcard_explain.specs.declared.line.Line.{Line}
use Rattle.pcard_explain.specs.declared.place.Open.{Open}
use Rattle.pcard_explain.specs.declared.place.Place.{Place}

-- ---- paths

-- The step to a part with this label: none to the whole value, or to the content of an option or a variant.
abbrev pub label_steps : Label → List PlainStep
label_steps Whole = []
label_steps (Field r) = at_name r.now ∷ []
label_steps (Part i) = at_part i ∷ []
label_steps (Element i) = at_element i ∷ []

-- The step from a part to its own parts: the name of a variant.
abbrev pub kind_steps : LineKind → List PlainStep
kind_steps (Variant i r) = at_name r.now ∷ []
kind_steps kind = []

-- The path around a line of this depth after other lines: that of the last line that is less deep. The other lines are given from the last
-- to the first.
abbrev pub path_around : List Line → ℕ → List PlainStep
path_around [] depth = []
path_around (line ∷ before) depth =
    if nat_lt line.depth depth then path_around before line.depth ++ label_steps line.label ++ kind_steps line.kind else path_around before depth

-- The path of a line after these.
abbrev pub path_after : List Line → Line → List PlainStep
path_after before line = path_around before line.depth ++ label_steps line.label

-- ---- the state of the code

-- A step as a path of one step. Without a step, the empty path.
abbrev pub steps_of : Option Step → List PlainStep
steps_of None = []
steps_of (Some s) = plain_step s ∷ []

-- The number of steps around a line of this depth in these parts: that of the last that is less deep, or else `found`.
abbrev pub last_steps : ℕ → List Open → ℕ → ℕ
last_steps found [] depth = found
last_steps found (part ∷ parts) depth = last_steps (if nat_lt part.depth depth then part.steps else found) parts depth

-- The number of steps around a line of this depth in these parts, or 0 if none is less deep.
abbrev pub steps_in : List Open → ℕ → ℕ
steps_in parts depth = last_steps 0 parts depth

-- The steps around a line of this depth.
abbrev pub around_in : Place → ℕ → List PlainStep
around_in place depth = take (steps_in place.parts.items depth) (plain_path place.path)

-- After these lines, the open parts have the paths around the lines up to this depth. A deeper line has a longer path.
pub record AreOpen (place : Place) (seen : List Line) (limit : ℕ) : Type 0 where
  pub around : (d : ℕ) → d ≤ limit → around_in place d ≡ path_around seen d
  pub rising : (d e : ℕ) → d ≤ e → e ≤ limit → steps_in place.parts.items d ≤ steps_in place.parts.items e
  pub within : (d : ℕ) → d ≤ limit → steps_in place.parts.items d ≤ length (plain_path place.path)

-- The place is after these lines.
abbrev pub Follows : Place → List Line → Type 0
Follows place seen = (limit : ℕ) → AreOpen place seen limit

-- The place is on the line after these.
pub record IsOn (place : Place) (seen : List Line) (line : Line) : Type 0 where
  pub path : plain_path place.path ≡ path_after seen line
  pub around : AreOpen place seen line.depth
