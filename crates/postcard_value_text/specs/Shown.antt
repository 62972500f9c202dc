-- The text of a value of a type with names, on one line. The contract of std doesn't say how a string or a character that isn't ASCII is
-- escaped. The contract of `ryu` doesn't say which digits a float has. The text of the whole is then not specified (`None`). The text of a
-- float alone denotes it (`ShowsFloat`).
use Rattle.std.specs.Prelude.{ℕ, zero, suc, ◌/◌, ◌%◌, Bool, true, false, not, ◌&&◌, ◌==◌, nat_lt, if◌then◌else◌, List, [], ◌∷◌, ◌++◌, Option, Some, None, codes}
use Rattle.std.specs.Fmt.{◌++?◌, decimal, signed_decimal, digits, debug_char, debug_str}
use Rattle.postcard_wire.specs.Tree.{Tree, Trees, Byte, Boolean, Num, Int, Text, NoTrees, Then}
use Rattle.postcard_wire.specs.Tree as nodes
use Rattle.postcard_schema.specs.Leaves.{size_of, is_signed}
use Rattle.postcard_schema.specs.declared.leaf.Integer.{Integer}
use Rattle.postcard_schema.specs.declared.leaf.Leaf.{Leaf}
use Rattle.postcard_schema.specs.declared.leaf.Leaf.TheVariants as leaves
use Rattle.postcard_value.specs.Numbers.{order_of, bytes_of, signed_of}
use Rattle.postcard_value_text.specs.Layout.{Layout, Layouts, Fields, leaf, option, list, mapping, array, tuple, structure, choice, no_layouts, then_layout, no_fields, then_field, is_unit, has_brackets}

-- The text as which a tree is printed, or `None` if it is not specified.
abbrev pub Printer : Type 0
Printer = Tree → Option (List ℕ)

-- Whether a byte is a printable ASCII character that has no escape between double quotes.
abbrev pub stands_for_itself : ℕ → Bool
stands_for_itself c = ((nat_lt 31 c && nat_lt c 127) && not (c == 34)) && not (c == 92)

-- Two lower-case hexadecimal digits for each byte, the high one first.
abbrev pub hexadecimal : Trees → List ℕ
hexadecimal (Then (Byte b) ts) = digits 16 false (b / 16) ++ digits 16 false (b % 16) ++ hexadecimal ts
hexadecimal ts = []

-- The text of the number with these bits in k bytes, which are in two's complement if the first argument is true.
abbrev pub bits_text : Bool → ℕ → ℕ → List ℕ
bits_text true k n = signed_decimal (signed_of k n)
bits_text false k n = decimal n

-- The text of a number of an integer type. The tree of a number of 8 bits is the byte of its bits.
abbrev pub integer_text : Integer → Printer
integer_text integer (Byte n) = Some (bits_text (is_signed integer) (size_of integer) n)
integer_text integer (Num w n) = Some (decimal n)
integer_text integer (Int w z) = Some (signed_decimal z)
integer_text integer t = None

-- The text of a value without parts.
abbrev pub leaf_text : Leaf → Printer
leaf_text leaves.Bool (Boolean x) = Some (if x then codes "true" else codes "false")
leaf_text (leaves.Integer integer) t = integer_text integer t
leaf_text leaves.Char (nodes.Char c) = debug_char c
leaf_text leaves.Str (Text u) = debug_str u
leaf_text leaves.Bytes (nodes.Seq ts) = Some (codes "0x" ++ hexadecimal ts)
leaf_text (leaves.Fixed order integer) (nodes.Group ts) = Some (bits_text (is_signed integer) (size_of integer) ((order_of order).value (bytes_of ts)))
leaf_text l t = None

-- The texts of parts in a row: `each_after` has a separator before each, `joined` before each but the first.
abbrev pub each_after : List ℕ → List (Option (List ℕ)) → Option (List ℕ)
each_after separator [] = Some []
each_after separator (x ∷ xs) = Some separator ++? x ++? each_after separator xs

-- The texts of a row, with a separator between two of them. It is none if one of them has no text.
abbrev pub joined : List ℕ → List (Option (List ℕ)) → Option (List ℕ)
joined separator [] = Some []
joined separator (x ∷ xs) = x ++? each_after separator xs

-- The text before the part at an index, counted from 0: the separator, but nothing before the first.
abbrev pub lead : ℕ → List ℕ → List ℕ
lead zero separator = []
lead (suc i) separator = separator

-- The texts of trees, all by one printer.
abbrev pub all_by : Printer → Trees → List (Option (List ℕ))
all_by p NoTrees = []
all_by p (Then t ts) = p t ∷ all_by p ts

-- The texts of trees, each by its own printer.
abbrev pub each_by : List Printer → Trees → List (Option (List ℕ))
each_by (p ∷ ps) (Then t ts) = p t ∷ each_by ps ts
each_by ps ts = []

-- A text between an opening and a closing bracket.
abbrev pub enclosed : List ℕ → Option (List ℕ) → List ℕ → Option (List ℕ)
enclosed opening inside closing = Some opening ++? inside ++? Some closing

-- `None`, or `Some(..)` with the text of the value.
abbrev pub option_text : Printer → Printer
option_text p nodes.Absent = Some (codes "None")
option_text p (nodes.Present t) = enclosed (codes "Some(") (p t) (codes ")")
option_text p t = None

-- The texts of elements in `[` and `]`, with `, ` between two of them.
abbrev pub items_text : Printer → Trees → Option (List ℕ)
items_text p ts = enclosed (codes "[") (joined (codes ", ") (all_by p ts)) (codes "]")

-- The elements of a list in `[` and `]`.
abbrev pub list_text : Printer → Printer
list_text p (nodes.Seq ts) = items_text p ts
list_text p t = None

-- The elements of an array in `[` and `]`.
abbrev pub array_text : Printer → Printer
array_text p (nodes.Group ts) = items_text p ts
array_text p t = None

-- The text of a map. The printer p prints an entry.
abbrev pub entries_text : Printer → Trees → Option (List ℕ)
entries_text p ts = enclosed (codes "{") (joined (codes ", ") (all_by p ts)) (codes "}")

-- The entries of a map in `{` and `}`.
abbrev pub map_text : Printer → Printer
map_text p (nodes.Seq ts) = entries_text p ts
map_text p t = None

-- The text of an entry of a map: a key, `=>` and a value.
abbrev pub entry_text : Printer → Printer → Printer
entry_text key value (nodes.Group (Then t (Then u NoTrees))) = key t ++? Some (codes " => ") ++? value u
entry_text key value t = None

-- The text of a tuple. In a tuple of one part, a `,` follows the part.
abbrev pub tuple_end : Layouts → List ℕ
tuple_end (then_layout x no_layouts) = codes ",)"
tuple_end xs = codes ")"

-- The texts of parts in `(` and `)`, with `, ` between two of them.
abbrev pub parts_text : Layouts → List Printer → Trees → Option (List ℕ)
parts_text xs ps ts = enclosed (codes "(") (joined (codes ", ") (each_by ps ts)) (tuple_end xs)

-- The parts of a tuple in `(` and `)`. After a single part comes a `,`.
abbrev pub tuple_text : Layouts → List Printer → Printer
tuple_text xs ps (nodes.Group ts) = parts_text xs ps ts
tuple_text xs ps t = None

-- The text of a struct. Each printer prints a field.
abbrev pub fields_text : List Printer → Trees → Option (List ℕ)
fields_text ps ts = enclosed (codes "{") (joined (codes ", ") (each_by ps ts)) (codes "}")

-- The fields of a struct in `{` and `}`.
abbrev pub struct_text : List Printer → Printer
struct_text ps (nodes.Group ts) = fields_text ps ts
struct_text ps t = None

-- The name of a field, `: ` and the text of its value.
abbrev pub field_text : List ℕ → Printer → Printer
field_text name p t = Some (name ++ codes ": ") ++? p t

-- The text of a variant's content, after its name.
abbrev pub content_text : Layout → Printer → Printer
content_text x p t = if is_unit x then Some [] else (if has_brackets x then p t else enclosed (codes "(") (p t) (codes ")"))

-- The text of a variant: its name and its content.
abbrev pub variant_text : List ℕ → Layout → Printer → Printer
variant_text name x p t = Some name ++? content_text x p t

-- The text of an enum's value, by the variant at its index.
abbrev pub choice_text : (ℕ → Printer) → Printer
choice_text p (nodes.Variant i t) = p i t
choice_text p t = None

abbrev mutual
  -- The text of a tree of the type.
  pub text : Layout → Printer
  text (leaf l) = leaf_text l
  text (option x) = option_text (text x)
  text (list x) = list_text (text x)
  text (mapping x y) = map_text (entry_text (text x) (text y))
  text (array x) = array_text (text x)
  text (tuple xs) = tuple_text xs (texts xs)
  text (structure fs) = struct_text (field_texts fs)
  text (choice fs) = choice_text (text_at fs)

  -- The printers of the types, in order.
  pub texts : Layouts → List Printer
  texts no_layouts = []
  texts (then_layout x xs) = text x ∷ texts xs

  -- The printers of the fields, in order.
  pub field_texts : Fields → List Printer
  field_texts no_fields = []
  field_texts (then_field n x fs) = field_text n (text x) ∷ field_texts fs

  -- The text of the variant at an index, counted from 0.
  pub text_at : Fields → ℕ → Printer
  text_at no_fields i = λ t. None
  text_at (then_field n x fs) zero = variant_text n x (text x)
  text_at (then_field n x fs) (suc i) = text_at fs i
