-- The layout of rows of text: the digits of bytes, the number of bytes of the lines and of the longest, and the columns they take.
use Rattle.std.proofs.Common.{◌≡◌, ℕ, ◌+◌, ◌*◌, ◌<◌, false, List, [], ◌∷◌, ◌++◌, length, take, get_or, refl, sym, ap, ◌∙◌, arith, length-append}
use Rattle.std.specs.Prelude.{codes, max, min}
use Rattle.std.proofs.lemmas.Grind.{flat_map-append}
use Rattle.std.proofs.lemmas.List.{append-nil, append_assoc, length-take, take_more}
use Rattle.hex.specs.Hex.{encode_lower, lower_digits}
use Rattle.hex.proofs.HexLemmas.{length-encode_with}
use Rattle.postcard_explain.specs.Explained.{bytes_of}
use Rattle.postcard_explain.specs.declared.line.Line.{Line}
use Rattle.pcard_explain.specs.Layouts.{bytes_text, longest_of, spaced, spaced_byte}
use Rattle.pcard_explain.specs.declared.layout.Layout.{Layout}

-- Printing one byte more adds its digits and a blank.
pub spaced_more : (xs : List ℕ) (i : ℕ) → i < length xs → spaced (take (i + 1) xs) ≡ spaced (take i xs) ++ spaced_byte (get_or xs i 0)
spaced_more xs i low =
    ap spaced (take_more xs i 0 low) ∙ flat_map-append spaced_byte (take i xs) (get_or xs i 0 ∷ [])
    ∙ ap (λ t. spaced (take i xs) ++ t) (append-nil (spaced_byte (get_or xs i 0)))

-- ---- counts

-- The bytes of joined lists of lines are the bytes of both.
bytes_join : (xs ys : List Line) → bytes_of (xs ++ ys) ≡ bytes_of xs ++ bytes_of ys
bytes_join [] ys = refl
bytes_join (x ∷ xs) ys = ap (λ p. x.bytes.now ++ p) (bytes_join xs ys) ∙ sym (append_assoc x.bytes.now (bytes_of xs) (bytes_of ys))

-- One line more adds the number of its bytes.
pub bytes_more : (lines : List Line) (line : Line) → length (bytes_of (lines ++ line ∷ [])) ≡ length (bytes_of lines) + length line.bytes.now
bytes_more lines line = ap length (bytes_join lines (line ∷ [])) ∙ length-append (bytes_of lines) (line.bytes.now ++ []) ∙ ap (λ p. length (bytes_of lines) + length p) (append-nil line.bytes.now)

-- The first i + 1 lines have as many bytes as the first i and line i.
pub counted_more : (lines : List Line) (i : ℕ) (line : Line) → i < length lines → line ≡ get_or lines i line
    → length (bytes_of (take (i + 1) lines)) ≡ length (bytes_of (take i lines)) + length line.bytes.now
counted_more lines i line low is =
    ap (λ ls. length (bytes_of ls)) (take_more lines i line low ∙ ap (λ l. take i lines ++ l ∷ []) (sym is)) ∙ bytes_more (take i lines) line

-- The most bytes of a line, with one line more, is the greater of the most before and the number of that line's bytes.
longest_join : (lines : List Line) (line : Line) → longest_of (lines ++ line ∷ []) ≡ max (longest_of lines) (length line.bytes.now)
longest_join [] line = omega arith
longest_join (l ∷ lines) line = omega (arith, longest_join lines line)

-- The same for the first i + 1 lines, of which line i is the last.
pub longest_more : (lines : List Line) (i : ℕ) (line : Line) → i < length lines → line ≡ get_or lines i line
    → longest_of (take (i + 1) lines) ≡ max (longest_of (take i lines)) (length line.bytes.now)
longest_more lines i line low is =
    ap longest_of (take_more lines i line low ∙ ap (λ l. take i lines ++ l ∷ []) (sym is)) ∙ longest_join (take i lines) line

-- ---- columns

-- A byte in hexadecimal takes three columns: two digits and a blank.
pub length-spaced : (xs : List ℕ) → length (spaced xs) ≡ 3 * length xs
length-spaced [] = refl
length-spaced (x ∷ xs) =
    omega (arith, length-append (spaced_byte x) (spaced xs), length-spaced xs, length-append (encode_lower (x ∷ [])) (32 ∷ []), length-encode_with lower_digits (x ∷ []))

-- If bytes may be cut, they take three columns each, and at most those of nine: eight bytes and `.. `.
pub length-bytes_text : (layout : Layout) (xs : List ℕ) → layout.all ≡ false → length (bytes_text layout xs) ≡ 3 * min (length xs) 9
length-bytes_text layout xs cut =
    rw cut (grind (arith, length-spaced xs, length-append (spaced (take 8 xs)) (codes ".. "), length-spaced (take 8 xs), length-take 8 xs))
