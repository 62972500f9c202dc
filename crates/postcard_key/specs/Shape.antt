-- The text of a type's shape, which `key` hashes: its type expression without names and blanks, such as `(u8,str,)`. A type expression of
-- an enum needs names. So an enum has a text of its own kind: `<`, then for each variant `|` and the text of its content, then `>`. The
-- enum `Boot | Reading(u8)` has the text `<|()|u8>`.
use Rattle.std.specs.Prelude.{ℕ, List, ◌++◌, codes}
use Rattle.std.specs.Fmt.{decimal}
use Rattle.postcard_schema.specs.Leaves.{leaf_name}
use Rattle.postcard_schema.specs.Meaning.{MessageType, MessageTypes, leaf, option, seq, array, group, choice, no_types, then_type}

abbrev mutual
  pub shape_text : MessageType → List ℕ
  shape_text (leaf l) = leaf_name l
  shape_text (option t) = codes "Option<" ++ (shape_text t ++ codes ">")
  shape_text (seq t) = codes "[" ++ (shape_text t ++ codes "]")
  shape_text (array n t) = codes "[" ++ (shape_text t ++ (codes ";" ++ (decimal n ++ codes "]")))
  shape_text (group ts) = codes "(" ++ parts_text ts
  shape_text (choice ts) = codes "<" ++ variants_text ts

  -- The parts of a group, each with a `,` after it, and the `)`.
  pub parts_text : MessageTypes → List ℕ
  parts_text no_types = codes ")"
  parts_text (then_type t ts) = shape_text t ++ (codes "," ++ parts_text ts)

  -- The contents of variants, each with a `|` before it, and the `>`.
  pub variants_text : MessageTypes → List ℕ
  variants_text no_types = codes ">"
  variants_text (then_type t ts) = codes "|" ++ (shape_text t ++ variants_text ts)
