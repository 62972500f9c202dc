-- Each gap and each token takes at least one byte, and each bracket at least one token: so the loops that read them end.
use Rattle.std.proofs.Common.{◌≡◌, ℕ, ◌+◌, ◌<◌, ◌≤◌, List, ◌∷◌, ◌++◌, length, ap, arith, length-append, inl, inr}
use Rattle.postcard_source.specs.declared.token.Token.{Token}
use Rattle.postcard_source.specs.Steps.{Steps, none, more}
use Rattle.postcard_source.specs.Lexical.{CommentStep, IsBlockComment, IsLifetime, IsLiteral, IsOtherAt, IsGap, IsTokenAt}
use Rattle.postcard_source.specs.Kept.{HasBracket, EndsBefore}
use Rattle.postcard_source.specs.Raw.{IsRaw}
use Rattle.postcard_source.proofs.Fronts.{letters_front}
use Rattle.postcard_source.proofs.RawFronts.{raw_letters}

-- If a text is `front` and `rest`, its length is the sum of theirs.
behind : (text front rest : List ℕ) → text ≡ front ++ rest → length text ≡ length front + length rest
behind text front rest e = let h = ap length e in omega (arith, h, length-append front rest)

-- A step inside a comment leaves fewer bytes.
pub comment_step : (s t : ℕ × List ℕ) → CommentStep s t → length t.1 < length s.1
comment_step s t (inl (depth, e)) = let h = ap length e in omega (arith, h)
comment_step s t (inr (inl (depth, e))) = let h = ap length e in omega (arith, h)
comment_step s t (inr (inr (b, depth, e, no_end, no_start))) = let h = ap length e in omega (arith, h)

-- Steps inside a comment leave no more bytes than before.
comment_steps : (s t : ℕ × List ℕ) → Steps (λ a b. CommentStep a b × (0 < b.0)) s t → length t.1 ≤ length s.1
comment_steps start end none = omega arith
comment_steps start end (more {s} {t} before step) =
    let first = comment_steps start s before in
    let next = comment_step s t step.0 in
    omega (arith, first, next)

-- A comment in `/*` and `*/` takes at least one byte.
comment_shorter : (text rest : List ℕ) → IsBlockComment text rest → length rest < length text
comment_shorter text rest (inner, e, (last, steps, end)) =
    let h = ap length e in
    let within = comment_steps (1, inner) last steps in
    let next = comment_step last (0, rest) end in
    omega (arith, h, within, next)

-- A lifetime takes at least one byte.
life_shorter : (text rest : List ℕ) → IsLifetime text rest → length rest < length text
unfolding IsLifetime
life_shorter text rest (inner, name, after, e, (pass, ends, whole), filled, no_quote, inl (comma, is)) =
    let h = ap length e in let k = behind inner name after whole in let l = ap length is in omega (arith, h, k, l)
life_shorter text rest (inner, name, after, e, (pass, ends, whole), filled, no_quote, inr (no_comma, is)) =
    let h = ap length e in let k = behind inner name after whole in let l = ap length is in omega (arith, h, k, l)

-- A gap between tokens takes at least one byte.
pub gap_shorter : (text rest : List ℕ) → IsGap text rest → length rest < length text
unfolding IsGap
gap_shorter text rest (inl (b, white, e)) = let h = ap length e in omega (arith, h)
gap_shorter text rest (inr (inl (line, e, plain, end))) = let h = ap length e in omega (arith, h, length-append line rest)
gap_shorter text rest (inr (inr (inl life))) = life_shorter text rest life
gap_shorter text rest (inr (inr (inr comment))) = comment_shorter text rest comment

-- A literal between quotes takes at least one byte.
literal_shorter : (quote : ℕ) (token text rest : List ℕ) → IsLiteral quote token text rest → length rest < length text
literal_shorter quote token text rest (inner, begins, (last, letters, end), whole) =
    let (front, e) = letters_front quote inner last letters in
    let h = ap length begins in let k = behind inner front last e in let l = ap length end in omega (arith, h, k, l)

-- A raw string takes at least one byte.
raw_shorter : (token text rest : List ℕ) → IsRaw token text rest → length rest < length text
raw_shorter token text rest (hashes, inner, (word, after, is, (pass, ends, whole), (all, stops, runs)), (last, letters, end), same) =
    let (front, e) = raw_letters hashes inner last letters in
    let h = behind text word after whole in let k = behind after hashes (34 ∷ inner) runs in
    let l = behind inner front last e in let m = behind last (34 ∷ hashes) rest end in omega (arith, h, k, l, m)

-- A token of another kind takes at least one byte.
other_shorter : (token text rest : List ℕ) → IsOtherAt token text rest → length rest < length text
other_shorter token text rest (inl (two, (same, e))) = let h = ap length e in omega (arith, h)
other_shorter token text rest (inr (no_two, inl (quote, literal))) = literal_shorter 34 token text rest literal
other_shorter token text rest (inr (no_two, inr (no_quote, inl (quote, literal)))) = literal_shorter 39 token text rest literal
other_shorter token text rest (inr (no_two, inr (no_quote, inr (no_other, (b, low, same, e))))) = let h = ap length e in omega (arith, h)

-- A token takes at least one byte.
pub token_shorter : (token text rest : List ℕ) → IsTokenAt token text rest → length rest < length text
unfolding IsTokenAt
token_shorter token text rest (inl (opens, raw)) = raw_shorter token text rest raw
token_shorter token text rest (inr (no_raw, inl ((pass, ends, whole), filled))) = let h = behind text token rest whole in omega (arith, h, filled)
token_shorter token text rest (inr (no_raw, inr (no_word, other))) = other_shorter token text rest other

-- The index after the bracket that index i has is greater than i.
pub bracket_further : (tokens : List Token) (i b j : ℕ) → HasBracket tokens i b → EndsBefore tokens b j → i < j
bracket_further tokens i b j (inl (hash, inl (opens, is))) (opening, closing, last, low, end, is_o, is_c, out, deeper) = omega arith
bracket_further tokens i b j (inl (hash, inr (mark, opens, is))) (opening, closing, last, low, end, is_o, is_c, out, deeper) = omega arith
bracket_further tokens i b j (inr (is_pub, scope, is)) (opening, closing, last, low, end, is_o, is_c, out, deeper) = omega arith
