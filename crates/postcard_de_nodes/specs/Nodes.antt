-- The kinds of nodes, and the one contract of a call that reads one.
use Rattle.std.specs.Prelude.{◌≡◌, ℕ, ℤ, pos, ◌<◌, ◌^◌, ◌⊎◌, List, Bool, Option, Result, IfErr, ⊤}
use Rattle.std.specs.Prelude.{Vec, String, string_bytes}
use Rattle.std.specs.Borrow.{Bor}
use Rattle.std.specs.declared.alloc.Global.{Global}
use Rattle.std.specs.Int.{w8, cast_unsigned}
use Rattle.std.specs.Float.{Float, Format}
use Rattle.postcard_wire.specs.declared.error.Error.{Error}
use Rattle.postcard_wire.specs.Number.{SpellsNum}
use Rattle.postcard_wire.specs.Reading.{IsByte, IsNum, IsInt, IsBoolean, IsChar, IsText, IsSeq}
use Rattle.postcard_wire.specs.Reading.{IsArray, IsGroup, IsOption, IsVariant}
use Rattle.postcard_wire.specs.Spelling.{Spells}
use Rattle.postcard_wire.specs.Tree.{Tree, Byte, Num, Int, Boolean, Char, Text}
use Rattle.postcard_shape.specs.Cases.{VariantIs}
use Rattle.postcard_shape.specs.Floats.{IsFloat, float_len}
use Rattle.postcard_shape.specs.Leaves.{Same, IsShortText, Without}
use Rattle.postcard_shape.specs.Lists.{EachIs, ListIs}
use Rattle.postcard_shape.specs.Options.{OptionIs, ResultReads, ResultIs}
use Rattle.postcard_shape.specs.Shape.{Shape, never, memory, either}
use Rattle.postcard_de_flavors.specs.declared.flavor.Flavor.{Ghosts}
use Rattle.postcard_de_nodes.specs.Reads.{Reads}
use Rattle.postcard_de_nodes.specs.Refuses.{Refuses, WantsByte, WantsBytes, NoneBad, WantsDigit}
use Rattle.postcard_de_nodes.specs.Refuses.{BadNumber, WantsText, BadText}
use Rattle.postcard_de_nodes.specs.Unfit.{BadBool, WantsChar, BadChar, BadBytes, BadShortText}
use Rattle.postcard_de_nodes.specs.Unfit.{ZeroByte, ZeroNumber, BadOption, ContentRefuses}
use Rattle.postcard_de_nodes.specs.Unfit.{BadIndex, VariantRefuses}

-- A kind of node, of which values of the type V are read. `spelled` says which bytes spell a thing,
-- `reads` which things are such nodes, and `value` which values each has. `other` has the errors by
-- which reading may fail beside those of its bytes. `wants` says after which bytes how many more are
-- wanted, and `bad` which bytes are bad, with which error.
pub record Node (X V : Type 0) : Type 1 where
  pub spelled : X → List ℕ → Type 0
  pub reads : X → Type 0
  pub value : X → V → Type 0
  pub other : Error → Type 0
  pub wants : List ℕ → ℕ → Type 0
  pub bad : List ℕ → Error → Type 0

-- A call that reads such a node over a source of a flavor with the ghosts F, from its state `old` to
-- `new`: what it returns, and exactly why it fails.
pub record ReadsNode {S M O X V : Type 0} (F : Ghosts S M O) (node : Node X V) (old : S)
    (result : Result V Error) (new : S) : Type 0 where
  pub reads : Reads F node.spelled node.reads node.value node.other old result new
  pub refused : IfErr result (λ e. Refuses F node.wants node.bad old e new)

-- A number of w bits by itself, as a count or an index, and not as a tree.
abbrev pub number_node : ℕ → Node ℕ ℕ
number_node w = record {
  spelled = SpellsNum w;
  reads = λ n. n < 2 ^ w;
  value = Same;
  other = never;
  wants = WantsDigit w;
  bad = BadNumber w;
}

-- A node that is a tree, for whose value no memory is asked.
abbrev pub tree_node : {V : Type 0} → (Tree → Type 0) → (Tree → V → Type 0) →
    (List ℕ → ℕ → Type 0) → (List ℕ → Error → Type 0) → Node Tree V
tree_node reads value wants bad = record {
  spelled = Spells;
  reads = reads;
  value = value;
  other = never;
  wants = wants;
  bad = bad;
}

-- A node whose value is a copy in memory that is asked for.
abbrev pub copied_node : {V : Type 0} → (Tree → Type 0) → (Tree → V → Type 0) →
    (List ℕ → ℕ → Type 0) → (List ℕ → Error → Type 0) → Node Tree V
copied_node reads value wants bad = record {
  spelled = Spells;
  reads = reads;
  value = value;
  other = memory;
  wants = wants;
  bad = bad;
}

-- The node, read as a value of another type, which is seen as the node's by `see`.
abbrev pub seen_node : {X V W : Type 0} → (W → V) → Node X V → Node X W
seen_node see node = record {
  spelled = node.spelled;
  reads = node.reads;
  value = λ x w. node.value x (see w);
  other = node.other;
  wants = node.wants;
  bad = node.bad;
}

-- A byte.
abbrev pub byte_node : Node Tree ℕ
byte_node = tree_node IsByte (λ t v. t ≡ Byte v) WantsByte NoneBad

-- A byte, read as a signed number in two's complement.
abbrev pub signed_byte_node : Node Tree ℤ
signed_byte_node = tree_node IsByte (λ t v. t ≡ Byte (cast_unsigned w8 v)) WantsByte NoneBad

-- An unsigned number of w bits.
abbrev pub num_node : ℕ → Node Tree ℕ
num_node w = tree_node (IsNum w) (λ t v. t ≡ Num w v) (WantsDigit w) (BadNumber w)

-- A signed number of w bits.
abbrev pub int_node : ℕ → Node Tree ℤ
int_node w = tree_node (IsInt w) (λ t v. t ≡ Int w v) (WantsDigit w) (BadNumber w)

-- A byte that isn't 0.
abbrev pub nonzero_byte_node : Node Tree ℕ
nonzero_byte_node = tree_node (Without (Byte 0) IsByte) (λ t v. t ≡ Byte v) WantsByte ZeroByte

-- A byte that isn't 0, read as a signed number in two's complement.
abbrev pub nonzero_signed_byte_node : Node Tree ℤ
nonzero_signed_byte_node =
    tree_node (Without (Byte 0) IsByte) (λ t v. t ≡ Byte (cast_unsigned w8 v)) WantsByte ZeroByte

-- An unsigned number of w bits that isn't 0.
abbrev pub nonzero_num_node : ℕ → Node Tree ℕ
nonzero_num_node w = tree_node (Without (Num w 0) (IsNum w)) (λ t v. t ≡ Num w v) (WantsDigit w)
    (ZeroNumber w)

-- A signed number of w bits that isn't 0.
abbrev pub nonzero_int_node : ℕ → Node Tree ℤ
nonzero_int_node w = tree_node (Without (Int w (pos 0)) (IsInt w)) (λ t v. t ≡ Int w v)
    (WantsDigit w) (ZeroNumber w)

-- A boolean.
abbrev pub boolean_node : Node Tree Bool
boolean_node = tree_node IsBoolean (λ t v. t ≡ Boolean v) WantsByte BadBool

-- A character.
abbrev pub char_node : Node Tree ℕ
char_node = tree_node IsChar (λ t v. t ≡ Char v) WantsChar BadChar

-- A text, lent.
abbrev pub lent_text_node : Node Tree (Bor (List ℕ))
lent_text_node = tree_node IsText (λ t v. t ≡ Text v.now) WantsText (BadText ⊥)

-- A text, copied.
abbrev pub text_node : Node Tree (String Global)
text_node = copied_node IsText (λ t v. t ≡ Text (string_bytes v)) WantsText (BadText ⊤)

-- A text of at most n bytes.
abbrev pub short_text_node : ℕ → Node Tree (List ℕ)
short_text_node n = tree_node (IsShortText n) (λ t v. t ≡ Text v) WantsText (BadShortText n)

-- A byte string, lent.
abbrev pub lent_bytes_node : Node Tree (Bor (List ℕ))
lent_bytes_node = tree_node (IsSeq IsByte) (λ t v. ListIs (λ s b. s ≡ Byte b) t v.now) WantsText
    (BadNumber 64)

-- A byte string, copied.
abbrev pub bytes_node : Node Tree (Vec ℕ Global)
bytes_node = copied_node (IsSeq IsByte) (λ t v. ListIs (λ s b. s ≡ Byte b) t v.items) WantsText
    BadBytes

-- An array of n bytes.
abbrev pub byte_array_node : ℕ → Node Tree (List ℕ)
byte_array_node n = tree_node (IsArray n IsByte)
    (λ t v. IsGroup (λ ts. EachIs (λ s b. s ≡ Byte b) ts v) t) (WantsBytes n) NoneBad

-- A float of that format.
abbrev pub float_node : Format → Node Tree Float
float_node f = tree_node (IsArray (float_len f) IsByte) (IsFloat f) (WantsBytes (float_len f)) NoneBad

-- A call that reads an option of what has the shape `content`: what it returns, and exactly why it
-- fails.
pub record ReadsOption {S M O V : Type 0} (F : Ghosts S M O) (content : Shape V) (old : S)
    (result : Result (Option V) Error) (new : S) : Type 0 where
  pub reads : Reads F Spells (IsOption content.reads) (OptionIs content.value) content.other old
      result new
  pub refused : IfErr result (λ e. Refuses F WantsByte BadOption old e new
      ⊎ ContentRefuses F content.reads content.value content.other old e new)

-- A call that reads an enum of two variants, whose contents have the shapes `good` and `bad`: what
-- it returns, and exactly why it fails.
pub record ReadsResult {S M O V W : Type 0} (F : Ghosts S M O) (good : Shape V) (bad : Shape W)
    (old : S) (result : Result (Result V W) Error) (new : S) : Type 0 where
  pub reads : Reads F Spells (IsVariant (ResultReads good.reads bad.reads))
      (VariantIs (ResultIs good.value bad.value)) (either good.other bad.other) old result new
  pub refused : IfErr result (λ e. Refuses F (WantsDigit 32) (BadIndex 2) old e new
      ⊎ (VariantRefuses F 0 good.reads good.value good.other old e new
      ⊎ VariantRefuses F 1 bad.reads bad.value bad.other old e new))
