-- Bounds of the sizes of frames, from those of the messages, and what `size` prints. A frame has at least a code byte and a zero more
-- than its data, and one more byte for each 254 bytes of it.
use Rattle.std.proofs.Common.{◌≡◌, ℕ, ◌+◌, ◌/◌, ◌≤◌, List, [], ◌∷◌, ◌++◌, length, Bool, true, false, cond, eqb, arith, length-append, sym, ap, subst}
use Rattle.std.specs.Prelude.{Option, Some, None, Result, Ok, Err, OnOk, flat_map}
use Rattle.std.specs.Io.KnownBytes.{Appends}
use Rattle.postcard_wire.specs.Tree.{Tree}
use Rattle.postcard_wire.specs.Spelling.{canonical}
use Rattle.postcard_cobs.specs.Groups.{made, coded, followed, gap, IsMade}
use Rattle.postcard_cobs.proofs.Made.{made_is_made, made_length}
use Rattle.postcard_schema_text.specs.Grammar.{IsExpression}
use Rattle.postcard_schema.specs.Meaning.{type_of, reads}
use Rattle.postcard_schema.specs.Paths.{PlainStep}
use Rattle.postcard_schema.specs.declared.schema.Schema.{Schema}
use Rattle.postcard_max.specs.Limits.{AreBounded, tree_len}
use Rattle.postcard_schema_size.specs.Endless.{endless}
use Rattle.postcard_schema_size.specs.Least.{IsLeastSize}
use Rattle.postcard_schema_size.specs.Sizes.{limit}
use Rattle.pcard_calls.specs.Size.{least_number, bounded_text, endless_text, size_text, FramesAreWithin, PrintsSize}

-- If two lists have at most one byte, so has the one that the test picks.
at_most_one : (b : Bool) (none one : List ℕ) → length none ≤ 1 → length one ≤ 1 → length (cond b none one) ≤ 1
at_most_one true none one h k = h
at_most_one false none one h k = k

-- A group of bytes without its code byte is no longer than with it.
coded_fits : (g : List ℕ) → length (followed g) ≤ length (coded g)
coded_fits g = omega (arith, at_most_one (eqb (length g) 254) [] (0 ∷ []) (omega arith) (omega arith), length-append g (gap g))

-- The bytes of groups without their code bytes are no more than with them.
all_fit : (gs : List (List ℕ)) → length (flat_map followed gs) ≤ length (flat_map coded gs)
all_fit [] = omega arith
all_fit (g ∷ gs) = omega (arith, coded_fits g, all_fit gs, length-append (followed g) (flat_map followed gs), length-append (coded g) (flat_map coded gs))

-- A made frame has at least two bytes more than the data.
made_longer : (d m : List ℕ) → IsMade d m → length d + 2 ≤ length m
made_longer d m is =
    omega (arith, ap length is.frame_is, ap length is.data_is, all_fit is.before, length-append ((flat_map coded is.before) ++ (coded is.last)) (0 ∷ []), length-append (flat_map coded is.before) (coded is.last), length-append (flat_map followed is.before) is.last)

-- A frame has at least two bytes more than its data: a code byte and the zero.
least_frame : (d : List ℕ) → length d + 2 ≤ length (made d)
least_frame d = made_longer d (made d) (made_is_made d)

-- Each tree of the set has at least as many bytes as its least size says.
least_bytes : (least : Option ℕ) (has : Tree → Type 0) (t : Tree) → IsLeastSize least has → has t → least_number least ≤ tree_len t
least_bytes None has t h r = h t r
least_bytes (Some n) has t h r = h.none_shorter t r

-- If messages have a least and perhaps a greatest size, their frames are within the numbers that `size` prints of frames.
pub frames_within : (least greatest : Option ℕ) (has : Tree → Type 0) → IsLeastSize least has → AreBounded greatest has → FramesAreWithin (least_number least) greatest has
frames_within least None has h k = tt
frames_within least (Some n) has h k = λ t r.
    let d = canonical t in
    let low : least_number least ≤ length d = least_bytes least has t h r in
    let high : length d ≤ n = k t r in
    let more : length d / 254 ≤ n / 254 = omega arith in
    (omega (arith, low, least_frame d), omega (arith, high, more, made_length d))

-- If P implies Q, and P holds after a success, so does Q.
pub on_ok_as : {E : Type 0} (r : Result (Unit {0}) E) (P Q : Type 0) → (P → Q) → OnOk r P → OnOk r Q
on_ok_as (Ok done) P Q f h = f h
on_ok_as (Err e) P Q f h = tt

-- If the text of the sizes of an expression's type is printed, `PrintsSize` holds of the expression.
module _ (expression : List ℕ) (schema : Schema) (least greatest : Option ℕ) (old new : Option (List ℕ)) (spelled : IsExpression schema expression)
    (low : IsLeastSize least (reads (type_of schema))) (high : AreBounded greatest (reads (type_of schema))) (is : greatest ≡ (limit (type_of schema)).greatest) where
  prints : Appends old new (size_text (least_number least) greatest (endless schema) ++ 10 ∷ []) → PrintsSize expression old new
  prints shown = record {
    schema = schema;
    spelled = spelled;
    least = least;
    is_least = low;
    frames = subst (λ g. FramesAreWithin (least_number least) g (reads (type_of schema))) is (frames_within least greatest (reads (type_of schema)) low high);
    printed = subst (λ g. Appends old new (size_text (least_number least) g (endless schema) ++ 10 ∷ [])) is shown;
  }

  pub bounded_printed : (n : ℕ) → greatest ≡ Some n → Appends old new (bounded_text (least_number least) n ++ 10 ∷ []) → PrintsSize expression old new
  bounded_printed n some shown = prints (subst (λ g. Appends old new (size_text (least_number least) g (endless schema) ++ 10 ∷ [])) (sym some) shown)

  pub endless_printed : (paths : List (List PlainStep)) → greatest ≡ None → paths ≡ endless schema
      → Appends old new (endless_text (least_number least) paths ++ 10 ∷ []) → PrintsSize expression old new
  endless_printed paths none listed shown = prints
      (subst (λ g. Appends old new (size_text (least_number least) g (endless schema) ++ 10 ∷ [])) (sym none)
      (subst (λ ps. Appends old new (endless_text (least_number least) ps ++ 10 ∷ [])) listed shown))
