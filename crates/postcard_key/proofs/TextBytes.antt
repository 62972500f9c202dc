-- Each element of a type's text is a byte, as the law on bursts requires.
use Rattle.std.proofs.Common.{ℕ, ◌<◌, List, [], ◌∷◌, ◌++◌, arith}
use Rattle.std.specs.Fmt.{decimal}
use Rattle.std.proofs.lemmas.Fmt.{IsAscii-decimal}
use Rattle.crc.specs.Checked.{AreBytes}
use Rattle.crc.proofs.EightLemmas.{are_bytes}
use Rattle.postcard_schema.specs.declared.leaf.ByteOrder.{ByteOrder}
use Rattle.postcard_schema.specs.declared.leaf.ByteOrder.TheVariants.{Little, Big}
use Rattle.postcard_schema.specs.declared.leaf.Float.TheVariants.{F32, F64}
use Rattle.postcard_schema.specs.declared.leaf.Integer.{Integer}
use Rattle.postcard_schema.specs.declared.leaf.Integer.TheVariants.{U8, U16, U32, U64, U128, I8, I16, I32, I64, I128}
use Rattle.postcard_schema.specs.declared.leaf.Leaf.{Leaf}
use Rattle.postcard_schema.specs.declared.leaf.Leaf.TheVariants as leaves
use Rattle.postcard_schema.specs.Leaves.{integer_name, leaf_name, order_name}
use Rattle.postcard_schema.specs.Meaning.{MessageType, MessageTypes, leaf, option, seq, array, group, choice, no_types, then_type}
use Rattle.postcard_key.specs.Counts.{AllCountsFit, CountsFit}
use Rattle.postcard_key.specs.Shape.{parts_text, shape_text, variants_text}

join : (xs ys : List ℕ) → AreBytes xs → AreBytes ys → AreBytes (xs ++ ys)
join [] ys p q = q
join (x ∷ xs) ys p q = (p.0, join xs ys p.1 q)

-- Bytes, and one more at the end.
ended : (xs : List ℕ) (b : ℕ) → AreBytes xs → b < 256 → AreBytes (xs ++ (b ∷ []))
ended xs b p low = join xs (b ∷ []) p (low, tt)

integer_bytes : (i : Integer) → AreBytes (integer_name i)
integer_bytes U8 = (omega arith, (omega arith, tt))
integer_bytes U16 = (omega arith, (omega arith, (omega arith, tt)))
integer_bytes U32 = (omega arith, (omega arith, (omega arith, tt)))
integer_bytes U64 = (omega arith, (omega arith, (omega arith, tt)))
integer_bytes U128 = (omega arith, (omega arith, (omega arith, (omega arith, tt))))
integer_bytes I8 = (omega arith, (omega arith, tt))
integer_bytes I16 = (omega arith, (omega arith, (omega arith, tt)))
integer_bytes I32 = (omega arith, (omega arith, (omega arith, tt)))
integer_bytes I64 = (omega arith, (omega arith, (omega arith, tt)))
integer_bytes I128 = (omega arith, (omega arith, (omega arith, (omega arith, tt))))

order_bytes : (o : ByteOrder) → AreBytes (order_name o)
order_bytes Little = (omega arith, (omega arith, tt))
order_bytes Big = (omega arith, (omega arith, tt))

leaf_bytes : (l : Leaf) → AreBytes (leaf_name l)
leaf_bytes leaves.Bool = (omega arith, (omega arith, (omega arith, (omega arith, tt))))
leaf_bytes leaves.Char = (omega arith, (omega arith, (omega arith, (omega arith, tt))))
leaf_bytes leaves.Str = (omega arith, (omega arith, (omega arith, tt)))
leaf_bytes leaves.Bytes = (omega arith, (omega arith, (omega arith, (omega arith, (omega arith, tt)))))
leaf_bytes (leaves.Float F32) = (omega arith, (omega arith, (omega arith, tt)))
leaf_bytes (leaves.Float F64) = (omega arith, (omega arith, (omega arith, tt)))
leaf_bytes (leaves.Integer i) = integer_bytes i
leaf_bytes (leaves.Fixed o i) =
    join (order_name o) (60 ∷ (integer_name i ++ (62 ∷ []))) (order_bytes o) (omega arith, ended (integer_name i) 62 (integer_bytes i) (omega arith))

mutual
  pub type_bytes : (t : MessageType) → CountsFit t → AreBytes (shape_text t)
  type_bytes (leaf l) f = leaf_bytes l
  type_bytes (option t) f = join (79 ∷ 112 ∷ 116 ∷ 105 ∷ 111 ∷ 110 ∷ 60 ∷ []) (shape_text t ++ (62 ∷ []))
      (omega arith, (omega arith, (omega arith, (omega arith, (omega arith, (omega arith, (omega arith, tt))))))) (ended (shape_text t) 62 (type_bytes t f) (omega arith))
  type_bytes (seq t) f = (omega arith, ended (shape_text t) 93 (type_bytes t f) (omega arith))
  type_bytes (array n t) f =
      let digits : AreBytes (decimal n) = are_bytes (decimal n) (λ i. omega (arith, IsAscii-decimal n f.0 i)) in
      (omega arith, join (shape_text t) (59 ∷ (decimal n ++ (93 ∷ []))) (type_bytes t f.1) (omega arith, ended (decimal n) 93 digits (omega arith)))
  type_bytes (group ts) f = (omega arith, parts_bytes ts f)
  type_bytes (choice ts) f = (omega arith, variants_bytes ts f)

  parts_bytes : (ts : MessageTypes) → AllCountsFit ts → AreBytes (parts_text ts)
  parts_bytes no_types f = (omega arith, tt)
  parts_bytes (then_type t ts) f = join (shape_text t) (44 ∷ parts_text ts) (type_bytes t f.0) (omega arith, parts_bytes ts f.1)

  variants_bytes : (ts : MessageTypes) → AllCountsFit ts → AreBytes (variants_text ts)
  variants_bytes no_types f = (omega arith, tt)
  variants_bytes (then_type t ts) f = (omega arith, join (shape_text t) (variants_text ts) (type_bytes t f.0) (variants_bytes ts f.1))
