-- The outcome of a call with two types, and its text.
use Rattle.std.specs.Prelude.{◌≡◌, ◌⊎◌, ℕ, List, [], ◌∷◌, ◌++◌, Bool, true, false, ◌&&◌, codes}
use Rattle.json.specs.Print.{quoted}
use Rattle.postcard_schema.specs.Meaning.{type_of}
use Rattle.postcard_schema.specs.declared.schema.Schema.{Schema}
use Rattle.postcard_schema_text.specs.Grammar.{IsExpression}
use Rattle.postcard_compat.specs.Serving.{Serves}
use Rattle.postcard_compat.specs.{IsCompared}
use Rattle.postcard_compat.specs.declared.comparison.Comparison.{Comparison}
use Rattle.postcard_compat.specs.declared.comparison.Verdict.{Verdict}
use Rattle.postcard_compat.specs.declared.comparison.Verdict.TheVariants.{Same, Front}
use Rattle.pcard_print.specs.declared.error.PrintError.{PrintError}
use Rattle.pcard_print.specs.declared.error.PrintError.TheVariants.{OutOfMemory, NoJson}
use Rattle.pcard_compat.specs.declared.request.Options.{Options}
use Rattle.pcard_compat.specs.declared.version.Side.TheVariants.{Old, New}
use Rattle.pcard_compat.specs.declared.version.Version.{Version}
use Rattle.pcard_compat.specs.Texts.{IsText}
use Rattle.pcard_compat.specs.Jsons.{IsJson}

-- The lines of a comparison, as JSON if the first argument is true.
abbrev pub IsShown : Bool → Version → Version → Comparison → List ℕ → Type 0
IsShown true writer reader c said = IsJson writer reader c said
IsShown false writer reader c said = IsText writer reader c said

-- Whether a verdict is good enough: `same`, and in frames also `front`.
abbrev pub is_safe : Bool → Verdict → Bool
is_safe framed Same = true
is_safe framed Front = framed
is_safe framed verdict = false

-- The reader was compared with the writer, and this is the text of the result.
pub record IsWay (options : Options) (writer reader : Version) (said : List ℕ) (safe : Bool) : Type 0 where
  pub comparison : Comparison
  pub compared : IsCompared (type_of writer.schema.now) (type_of reader.schema.now) comparison
  pub shown : IsShown options.json writer reader comparison said
  pub safety : safe ≡ is_safe options.framed comparison.verdict

-- The text is an expression of a type that reads each message of both types as the same.
pub record IsHostOf (old new : Schema) (expression : List ℕ) : Type 0 where
  pub host : Schema
  pub spelled : IsExpression host expression
  pub serves_old : Serves (type_of host) (type_of old)
  pub serves_new : Serves (type_of host) (type_of new)

-- The line of a type by which a host reads both versions, as JSON or as text.
abbrev pub host_text : Bool → List ℕ → List ℕ
host_text true expression = codes "{\"both\":" ++ (quoted expression ++ codes "}\n")
host_text false expression = codes "both: a host reads either version as " ++ (expression ++ 10 ∷ [])

-- The line with a type for a host, or nothing.
abbrev pub IsHostLine : Bool → Schema → Schema → List ℕ → Type 0
IsHostLine json old new line = (line ≡ []) ⊎ ((expression : List ℕ) × IsHostOf old new expression × (line ≡ host_text json expression))

-- Both directions, and a type for a host.
pub record IsBothWays (options : Options) (old new : Version) (said : List ℕ) (safe : Bool) : Type 0 where
  pub forth : List ℕ
  pub back : List ℕ
  pub host : List ℕ
  pub forth_safe : Bool
  pub back_safe : Bool
  pub is_forth : IsWay options old new forth forth_safe
  pub is_back : IsWay options new old back back_safe
  pub is_host : IsHostLine options.json old.schema.now new.schema.now host
  pub lines : said ≡ forth ++ (back ++ host)
  pub safety : safe ≡ (forth_safe && back_safe)

-- The text and the safety of the outcome, of both directions or of one.
abbrev pub IsOutcomeOf : Bool → Options → Version → Version → List ℕ → Bool → Type 0
IsOutcomeOf true options old new said safe = IsBothWays options old new said safe
IsOutcomeOf false options old new said safe = IsWay options old new said safe

-- The two types were compared by the options. In one direction, or in both.
pub record IsOutcome (options : Options) (old new : Schema) (said : List ℕ) (safe : Bool) : Type 0 where
  pub writer : Version
  pub reader : Version
  pub is_old : writer.side ≡ Old
  pub is_new : reader.side ≡ New
  pub old_type : writer.schema.now ≡ old
  pub new_type : reader.schema.now ≡ new
  pub outcome : IsOutcomeOf options.both options writer reader said safe

-- The failures of comparing two types and showing the outcome.
abbrev pub FailsToShow : Bool → PrintError → Type 0
FailsToShow json error = (error ≡ OutOfMemory) ⊎ ((error ≡ NoJson) × (json ≡ true))
