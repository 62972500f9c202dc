-- When JSON must be read: it is read as the only tree that it denotes.
use Rattle.std.specs.Prelude.{◌≡◌, ℕ, List, Option, MatchOption, Result, MatchResult, Some, string_bytes, ◌⊎◌}
use Rattle.postcard_wire.specs.Tree.{Tree, Trees, NoTrees, Then}
use Rattle.postcard_wire.specs.Tree as nodes
use Rattle.postcard_schema.specs.declared.schema.Named.{Named}
use Rattle.postcard_schema.specs.declared.schema.Schema.{Schema}
use Rattle.postcard_schema.specs.Meaning.{MessageType, MessageTypes, entry_of, reads, reads_all}
use Rattle.postcard_value.specs.declared.value.Value.{Value}
use Rattle.postcard_value.specs.Tree.{tree}
use Rattle.postcard_value_text.specs.Accepted.{HasDistinctNames}
use Rattle.postcard_value_text.specs.Layout.{Layout, Layouts, Fields, layout_of}
use Rattle.serde_json.specs.Data.{Data, Items, string}
use Rattle.postcard_value_json.specs.Written.{alone, can_be_null}
use Rattle.postcard_value_json_read.specs.declared.error.JsonError.{JsonError}
use Rattle.postcard_value_json_read.specs.declared.error.JsonError.TheVariants.{OutOfMemory}
use Rattle.postcard_value_json_read.specs.Reading.{Reading, IsJsonOf, IsEntryJson, IsOptionJson, IsVariantJson, AreParts, AreFields, IsMember}

-- The tree of an entry of a map.
abbrev pub entry_tree : Tree → Tree → Tree
entry_tree key value = nodes.Group (Then key (Then value NoTrees))

-- The JSON is read by R as the tree, and the tree is one of P.
abbrev pub IsBoth : (Tree → Type 0) → Reading → Reading
IsBoth P R t d = P t × R t d

-- The same of a type.
abbrev pub IsReading : MessageType → Layout → Reading
IsReading m x = IsBoth (reads m) (IsJsonOf x)

-- The same of an entry of a map.
abbrev pub IsEntryReading : (key : MessageType) → Layout → (value : MessageType) → Layout → Reading
IsEntryReading k x v y = IsBoth (reads (entry_of k v)) (IsEntryJson (IsJsonOf x) (IsJsonOf y))

-- The JSON of an option is read as the tree of the value in it.
abbrev pub IsHeldReading : MessageType → Layout → Reading
IsHeldReading m x t d = reads m t × IsOptionJson (can_be_null x) (IsJsonOf x) (nodes.Present t) d

-- The trees are those of the types of a tuple, and the items are read as them.
abbrev pub ArePartsReading : MessageTypes → Layouts → Trees → Items → Type 0
ArePartsReading ms xs ts ds = reads_all ms ts × AreParts xs ts ds

-- The trees are those of the types of a struct, and the members of the JSON are read as them.
abbrev pub AreFieldsReading : MessageTypes → Fields → Trees → Data → Type 0
AreFieldsReading ms fs ts d = reads_all ms ts × AreFields fs ts d

-- The JSON has a member of this name, which is read as the tree.
abbrev pub IsMemberReading : List ℕ → MessageType → Layout → Reading
IsMemberReading n m x = IsMember n (IsReading m x)

-- The JSON is read as the content of a variant with this name.
abbrev pub IsContentReading : List ℕ → MessageType → Layout → Reading
IsContentReading n m x = IsBoth (reads m) (IsVariantJson n x (IsJsonOf x))

-- The JSON denotes the tree as the variant.
abbrev pub IsJsonOfVariant : Named Schema → Reading
IsJsonOfVariant n t d = IsVariantJson (string_bytes n.name) (layout_of n.content) (IsJsonOf (layout_of n.content)) t d

-- The JSON is the name, or an object with a member of this name alone.
abbrev pub IsNameIn : List ℕ → Data → Type 0
IsNameIn n d = (d ≡ string n) ⊎ ((e : Data) × (d ≡ alone n e))

-- R relates what is read and JSON. The JSON d denotes t by R and, if the condition D holds, nothing else.
abbrev pub IsOnly : {T J : Type 0} → Type 0 → (T → J → Type 0) → T → J → Type 0
IsOnly D R t d = R t d × (D → (u : _) → R u d → u ≡ t)

-- The result has what d denotes by R, or is an error. If the condition D holds, and the error isn't `OutOfMemory`, d denotes nothing.
abbrev pub Answers : {V T J : Type 0} → Type 0 → (V → T) → (T → J → Type 0) → J → Result V JsonError → Type 0
Answers D see R d r = MatchResult r (λ v. IsOnly D R (see v) d) (λ e. D → (u : _) → R u d → e ≡ OutOfMemory)

-- The same of a value of a type. The condition is that its names tell its values apart.
abbrev pub Reads : MessageType → Layout → Data → Result Value JsonError → Type 0
Reads m x d r = Answers (HasDistinctNames x) tree (IsReading m x) d r

-- What d denotes by R, or `None` if it denotes nothing.
abbrev pub Finds : {V T : Type 0} → (V → T) → (T → Data → Type 0) → Data → Option V → Type 0
Finds see R d o = MatchOption o ((u : _) → R u d → ⊥) (λ v. IsOnly (Unit {0}) R (see v) d)
