-- How a path leads from a JSON text to the text of a part, by the signs of the text alone. Blanks, the white space of ASCII, may come
-- before each value, name and sign.
use Rattle.std.specs.Prelude.{◌≡◌, ℕ, zero, suc, List, [], ◌∷◌, Some, IsUtf8}
use Rattle.postcard_schema.specs.Paths.{PlainStep, at_each, at_element, at_name, at_part}
use Rattle.postcard_schema_text.specs.Text.{Led, Then, TakesPhrase, IsSign, unblank}
use Rattle.serde_json.specs.Data.{string}
use Rattle.serde_json.specs.Read.{read}
use Rattle.postcard_value_json_read.specs.Values.{IsString, IsValue}

-- n values, with a `,` after each.
abbrev pub AreValues : ℕ → List ℕ → Type 0
AreValues zero text = text ≡ []
AreValues (suc n) text = Then (Led IsValue) (Then (IsSign 44) (AreValues n)) text

-- From the text of an array, `rest` begins with the item at the index n.
abbrev pub IsItemAt : ℕ → List ℕ → List ℕ → Type 0
IsItemAt n text rest = (left : List ℕ) × TakesPhrase (Then (IsSign 91) (AreValues n)) text left × (rest ≡ unblank left)

-- The text is a string that stands for the name, or a string that doesn't.
abbrev pub IsNameText : List ℕ → List ℕ → Type 0
IsNameText name text = IsString text × IsUtf8 text × (read text ≡ Some (string name))

-- The text is a string that isn't the name.
abbrev pub IsOtherName : List ℕ → List ℕ → Type 0
IsOtherName name text = IsString text × (read text ≡ Some (string name) → ⊥)

-- A member: a name of N, `:` and a value.
abbrev pub IsMemberText : (List ℕ → Type 0) → List ℕ → Type 0
IsMemberText N text = Then (Led N) (Then (IsSign 58) (Led IsValue)) text

-- n members, with a `,` after each.
abbrev pub AreMembers : ℕ → List ℕ → Type 0
AreMembers zero text = text ≡ []
AreMembers (suc n) text = Then (IsMemberText IsString) (Then (IsSign 44) (AreMembers n)) text

-- n members with other names, with a `,` before each.
abbrev pub AreOthers : List ℕ → ℕ → List ℕ → Type 0
AreOthers name zero text = text ≡ []
AreOthers name (suc n) text = Then (IsSign 44) (Then (IsMemberText (IsOtherName name)) (AreOthers name n)) text

-- From the text of an object, `rest` begins with the value of the last member with this name.
abbrev pub IsMemberAt : List ℕ → List ℕ → List ℕ → Type 0
IsMemberAt name text rest =
    (n : ℕ) × (m : ℕ) × (left : List ℕ) × (after : List ℕ)
    × TakesPhrase (Then (IsSign 123) (Then (AreMembers n) (Then (Led (IsNameText name)) (IsSign 58)))) text left
    × TakesPhrase (Then (Led IsValue) (Then (AreOthers name m) (IsSign 125))) left after
    × (rest ≡ unblank left)

-- The step leads from the text of an array or of an object to `rest`.
abbrev pub LeadsTo : PlainStep → List ℕ → List ℕ → Type 0
LeadsTo (at_name name) text rest = IsMemberAt name text rest
LeadsTo (at_part n) text rest = IsItemAt n text rest
LeadsTo (at_element n) text rest = IsItemAt n text rest
LeadsTo at_each text rest = rest ≡ text

-- The steps lead from a text to `rest`, one after another.
abbrev pub Lead : List PlainStep → List ℕ → List ℕ → Type 0
Lead [] text rest = rest ≡ text
Lead (step ∷ steps) text rest = (part : List ℕ) × LeadsTo step text part × Lead steps part rest

-- From the text of JSON, `rest` begins with the part at this path.
abbrev pub IsPartAt : List PlainStep → List ℕ → List ℕ → Type 0
IsPartAt steps text rest = Lead steps (unblank text) rest
