-- The text of a path.
use Rattle.std.specs.Prelude.{ℕ, zero, suc, List, [], ◌∷◌, ◌++◌, map, codes}
use Rattle.std.specs.Fmt.{decimal}
use Rattle.postcard_schema.specs.declared.path.Path.{Path}
use Rattle.postcard_schema.specs.declared.path.Step.{Step}
use Rattle.postcard_schema.specs.declared.path.Step.TheVariants.{Name, Part, Element, Each}

-- A step as a plain value: a name is its text, and not a place in memory.
pub data PlainStep : Type 0 where
  at_name : List ℕ → PlainStep
  at_part : ℕ → PlainStep
  at_element : ℕ → PlainStep
  at_each : PlainStep

-- The step that a value of the program stands for.
abbrev pub plain_step : Step → PlainStep
plain_step (Name name) = at_name name.now
plain_step (Part k) = at_part k
plain_step (Element i) = at_element i
plain_step Each = at_each

-- The steps of a path of the program.
abbrev pub plain_path : Path → List PlainStep
plain_path path = map plain_step path.steps.items

-- The text of a step by itself.
abbrev pub step_text : PlainStep → List ℕ
step_text (at_name name) = name
step_text (at_part k) = decimal k
step_text (at_element i) = codes "[" ++ (decimal i ++ codes "]")
step_text at_each = codes "[]"

-- The sign between two steps, of which this is the second.
abbrev pub sign_before : PlainStep → List ℕ
sign_before (at_name name) = codes "."
sign_before (at_part k) = codes "."
sign_before (at_element i) = []
sign_before at_each = []

-- The text of the step at this index of a path.
abbrev pub placed_text : ℕ → PlainStep → List ℕ
placed_text zero s = step_text s
placed_text (suc i) s = sign_before s ++ step_text s

-- The text of the steps of a path from this index on.
abbrev pub steps_text : ℕ → List PlainStep → List ℕ
steps_text i [] = []
steps_text i (s ∷ ss) = placed_text i s ++ steps_text (suc i) ss

-- The text of a path.
abbrev pub plain_text : List PlainStep → List ℕ
plain_text = steps_text 0

-- The text of the steps of a program, as a path.
abbrev pub path_text : List Step → List ℕ
path_text steps = plain_text (map plain_step steps)
