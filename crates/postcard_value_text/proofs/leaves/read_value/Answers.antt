-- What is read of each type without parts is a value of it: the tree of that value is of the type, the text denotes it, and each text of a
-- value is read.
use Rattle.std.proofs.Common.{◌≡◌, ◌<◌, ◌^◌, map, length, refl, arith, rules}
use Rattle.std.specs.Prelude.{string_bytes}
use Rattle.std.proofs.lemmas.Str.{IsUtf8-string_bytes}
use Rattle.postcard_wire.specs.Tree.{Byte, Boolean, Text, Seq, trees}
use Rattle.postcard_wire.specs.Tree as nodes
use Rattle.postcard_schema.specs.Meaning.{integer_reads}
use Rattle.postcard_schema.specs.declared.leaf.ByteOrder.TheVariants.{Little}
use Rattle.postcard_wire.specs.Reading.{IsArray, IsByte}
use Rattle.postcard_value.specs.Numbers.{fixed_tree, integer_tree}
use Rattle.postcard_value.specs.declared.value.Value.{the_lemmas}
use Rattle.postcard_value.specs.declared.value.Value as values
use Rattle.postcard_value_text.specs.{float_size, size_of, tree}
use Rattle.postcard_value_text.proofs.LeafFronts.{leaf_read, leaf_refused, bool_form, bits_form, float_form, char_form, text_form, bytes_form}
use Rattle.postcard_value_text.proofs.LeafTrees.{is_integer, is_bytes, is_fixed}
use Rattle.postcard_value_text.proofs.leaves.read_value.Goals as goal

pub returns-in_ok-read_bool-in-Bool : goal.returns-in_ok-read_bool-in-Bool
returns-in_ok-read_bool-in-Bool c =
    let v = c.in_ok-read_bool-in-Bool in
    let x = v.field-0 in
    let seen : tree (values.Bool x) ≡ Boolean x = search (rules, the_lemmas) in
    rw c.in-Bool.is (leaf_read bool_form c.skip_blanks.ensures x (values.Bool x) seen
    (x, refl) v.ensures.spelled (λ y r is k ends. v.ensures.accepted y r k ends))

pub returns-in_err-read_bool-in-Bool : goal.returns-in_err-read_bool-in-Bool
returns-in_err-read_bool-in-Bool c =
    rw c.in-Bool.is (leaf_refused bool_form c.skip_blanks.ensures _
    c.from_residual.ensures.1 (λ y r is k ends. absurd (c.in_err-read_bool-in-Bool.ensures.accepted y r k ends)))

pub returns-in_ok-read_bits-in-Integer : goal.returns-in_ok-read_bits-in-Integer
returns-in_ok-read_bits-in-Integer c =
    let v = c.in_ok-read_bits-in-Integer in
    let x = v.field-0 in
    let i = c.in-Integer.integer in
    let seen : tree (values.Integer i x) ≡ integer_tree i x = search (rules, the_lemmas) in
    rw c.in-Integer.is (leaf_read (bits_form (integer_reads i) (integer_tree i) i) c.skip_blanks.ensures x (values.Integer i x) seen
    (is_integer i x) v.ensures.spelled (λ y r is k ends. v.ensures.accepted y r k ends))

pub returns-in_err-read_bits-in-Integer : goal.returns-in_err-read_bits-in-Integer
returns-in_err-read_bits-in-Integer c =
    let i = c.in-Integer.integer in
    rw c.in-Integer.is (leaf_refused (bits_form (integer_reads i) (integer_tree i) i) c.skip_blanks.ensures _
    c.from_residual-in_err-read_bits-in-Integer.ensures.1 (λ y r is k ends. absurd (c.in_err-read_bits-in-Integer.ensures.accepted y r k ends)))

pub returns-in_ok-read_float-in-Float : goal.returns-in_ok-read_float-in-Float
returns-in_ok-read_float-in-Float c =
    let v = c.in_ok-read_float-in-Float in
    let x = v.field-0 in
    let f = c.in-Float.float in
    let seen : tree (values.Float f x) ≡ fixed_tree Little (float_size f) x = search (rules, the_lemmas) in
    rw c.in-Float.is (leaf_read (float_form (IsArray (float_size f) IsByte) f) c.skip_blanks.ensures x (values.Float f x) seen
    (is_fixed Little (float_size f) x) v.ensures.spelled (λ y r is k ends. v.ensures.reads_back y r k ends))

pub returns-in_err-read_float-in-Float : goal.returns-in_err-read_float-in-Float
returns-in_err-read_float-in-Float c =
    let f = c.in-Float.float in
    rw c.in-Float.is (leaf_refused (float_form (IsArray (float_size f) IsByte) f) c.skip_blanks.ensures _
    c.from_residual-in_err-read_float-in-Float.ensures.1 (λ y r is k ends. absurd (c.in_err-read_float-in-Float.ensures.reads_back y r k ends)))

pub returns-in_ok-read_char-in-Char : goal.returns-in_ok-read_char-in-Char
returns-in_ok-read_char-in-Char c =
    let v = c.in_ok-read_char-in-Char in
    let x = v.field-0 in
    let seen : tree (values.Char x) ≡ nodes.Char x = search (rules, the_lemmas) in
    rw c.in-Char.is (leaf_read char_form c.skip_blanks.ensures x (values.Char x) seen
    (x, refl, search rules) v.ensures.spelled (λ y r is k ends. v.ensures.accepted y r is k))

pub returns-in_err-read_char-in-Char : goal.returns-in_err-read_char-in-Char
returns-in_err-read_char-in-Char c =
    rw c.in-Char.is (leaf_refused char_form c.skip_blanks.ensures _
    c.from_residual-in_err-read_char-in-Char.ensures.1 (λ y r is k ends. c.in_err-read_char-in-Char.ensures.accepted y r is k))

pub returns-in_ok-take_quoted-in-Str : goal.returns-in_ok-take_quoted-in-Str
returns-in_ok-take_quoted-in-Str c =
    let v = c.in_ok-take_quoted-in-Str in
    let x = v.field-0 in
    let seen : tree (values.Str x) ≡ Text (string_bytes x) = search (rules, the_lemmas) in
    let few : length (string_bytes x) < 2 ^ 64 = omega (arith, x.bytes.small) in
    rw c.in-Str.is (leaf_read text_form c.skip_blanks.ensures (string_bytes x) (values.Str x) seen
    (string_bytes x, refl, IsUtf8-string_bytes x, few) v.ensures.spelled (λ y r is k ends. v.ensures.accepted refl (λ e. omega (arith, e)) y r is k))

pub returns-in_err-take_quoted-in-Str : goal.returns-in_err-take_quoted-in-Str
returns-in_err-take_quoted-in-Str c =
    rw c.in-Str.is (leaf_refused text_form c.skip_blanks.ensures _
    c.from_residual-in_err-take_quoted-in-Str.ensures.1 (λ y r is k ends. c.in_err-take_quoted-in-Str.ensures.accepted refl (λ e. omega (arith, e)) y r is k))

pub returns-in_ok-read_bytes-in-Bytes : goal.returns-in_ok-read_bytes-in-Bytes
returns-in_ok-read_bytes-in-Bytes c =
    let v = c.in_ok-read_bytes-in-Bytes in
    let x = v.field-0 in
    let seen : tree (values.Bytes x) ≡ Seq (trees (map Byte x.items)) = search (rules, the_lemmas) in
    let few : length x.items < 2 ^ 64 = omega (arith, x.small) in
    rw c.in-Bytes.is (leaf_read bytes_form c.skip_blanks.ensures x.items (values.Bytes x) seen
    (is_bytes x.items few v.ensures.range) v.ensures.spelled (λ y r is k ends. v.ensures.accepted y r k ends))

pub returns-in_err-read_bytes-in-Bytes : goal.returns-in_err-read_bytes-in-Bytes
returns-in_err-read_bytes-in-Bytes c =
    rw c.in-Bytes.is (leaf_refused bytes_form c.skip_blanks.ensures _
    c.from_residual-in_err-read_bytes-in-Bytes.ensures.1 (λ y r is k ends. c.in_err-read_bytes-in-Bytes.ensures.accepted y r k ends))

pub returns-in_ok-read_bits-in-Fixed : goal.returns-in_ok-read_bits-in-Fixed
returns-in_ok-read_bits-in-Fixed c =
    let v = c.in_ok-read_bits-in-Fixed in
    let x = v.field-0 in
    let o = c.in-Fixed.order in
    let i = c.in-Fixed.integer in
    let seen : tree (values.Fixed o i x) ≡ fixed_tree o (size_of i) x = search (rules, the_lemmas) in
    rw c.in-Fixed.is (leaf_read (bits_form (IsArray (size_of i) IsByte) (fixed_tree o (size_of i)) i) c.skip_blanks.ensures x (values.Fixed o i x) seen
    (is_fixed o (size_of i) x) v.ensures.spelled (λ y r is k ends. v.ensures.accepted y r k ends))

pub returns-in_err-read_bits-in-Fixed : goal.returns-in_err-read_bits-in-Fixed
returns-in_err-read_bits-in-Fixed c =
    let o = c.in-Fixed.order in
    let i = c.in-Fixed.integer in
    rw c.in-Fixed.is (leaf_refused (bits_form (IsArray (size_of i) IsByte) (fixed_tree o (size_of i)) i) c.skip_blanks.ensures _
    c.from_residual-in_err-read_bits-in-Fixed.ensures.1 (λ y r is k ends. absurd (c.in_err-read_bits-in-Fixed.ensures.accepted y r k ends)))
