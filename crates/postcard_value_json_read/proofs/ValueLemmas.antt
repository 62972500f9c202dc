-- Lemmas for skipping a value of a JSON text. They say what is left of a string, an array, an object or a scalar after its first byte or
-- piece.
use Rattle.std.proofs.Common.{◌≡◌, ℕ, zero, suc, ◌+◌, ◌-◌, true, false, ◌==◌, List, [], ◌∷◌, ◌++◌, inl, inr, ◌⊎◌, refl, sym, ap, ◌∙◌, subst, append_assoc, arith}
use Rattle.std.proofs.lemmas.Bool.{eqb-true, or_cases}
use Rattle.postcard_value_json_read.specs.Values.{AreQuoted, Closes, EndsScalar, IsNested, IsScalar, Piece, bracket, bytes, ends_scalar, is_closing, is_opening, other, quoted}

-- A byte other than a quote is one of the string. After a `\` the next byte is escaped.
pub quoted_on : (b : ℕ) (left more rest : List ℕ) → AreQuoted false more → b ∷ left ≡ more ++ 34 ∷ rest → (b ≡ 34 → ⊥) → (next : List ℕ) × AreQuoted (b == 92) next × (left ≡ next ++ 34 ∷ rest)
quoted_on b left [] rest h e no_quote = absurd (no_quote cc)
quoted_on b left (x ∷ xs) rest h e no_quote = let same : x ≡ b = cc in (xs, subst (λ y. AreQuoted (y == 92) xs) same h.1, cc)

-- An escaped byte is one of the string, whatever it is.
pub escaped_on : (b : ℕ) (left more rest : List ℕ) → AreQuoted true more → b ∷ left ≡ more ++ 34 ∷ rest → (next : List ℕ) × AreQuoted false next × (left ≡ next ++ 34 ∷ rest)
escaped_on b left [] rest h e = absurd h
escaped_on b left (x ∷ xs) rest h e = (xs, h, cc)

-- After the first quote, the bytes of the string are left.
pub quoted_in : (b : ℕ) (left inside rest : List ℕ) → b ∷ left ≡ 34 ∷ (inside ++ 34 ∷ rest) → left ≡ inside ++ 34 ∷ rest
quoted_in b left inside rest e = cc

-- A byte that ends a scalar is the first one after it.
pub scalar_here : (b : ℕ) (left more rest : List ℕ) → IsScalar more → b ∷ left ≡ more ++ rest → ends_scalar b ≡ true → b ∷ left ≡ rest
scalar_here b left [] rest h e end = e
scalar_here b left (x ∷ xs) rest h e end = let same : b ≡ x = cc in absurd (cc (sym end ∙ ap ends_scalar same ∙ h.0))

-- Another byte is one of the scalar.
pub scalar_on : (b : ℕ) (left more rest : List ℕ) → IsScalar more → EndsScalar rest → b ∷ left ≡ more ++ rest → ends_scalar b ≡ false → (next : List ℕ) × IsScalar next × (left ≡ next ++ rest)
scalar_on b left [] rest h ends e on = let end : ends_scalar b ≡ true = subst EndsScalar (sym e) ends in absurd (cc (sym end ∙ on))
scalar_on b left (x ∷ xs) rest h ends e on = (xs, h.1, cc)

-- What is open after a byte or a string, before the text `rest`: nothing at the end, or some brackets.
abbrev pub Open : ℕ → List ℕ → List ℕ → Type 0
Open depth left rest = ((depth ≡ 0) × (left ≡ rest)) ⊎ ((n : ℕ) × (ps : List Piece) × (depth ≡ suc n) × Closes (suc n) ps × (left ≡ bytes ps ++ rest))

closing_only : (b : ℕ) → is_closing b ≡ true → is_opening b ≡ false
closing_only b e = elim (or_cases (b == 93) (b == 125) e) [
  | inl is ↦ subst (λ y. is_opening y ≡ false) (sym (eqb-true b 93 is)) refl
  | inr is ↦ subst (λ y. is_opening y ≡ false) (sym (eqb-true b 125 is)) refl
]

quote_in : (b n : ℕ) (left rest after : List ℕ) (ps : List Piece) → Closes (suc n) ps → b ∷ left ≡ bytes ps ++ rest → b ≡ 34 → ((inside more : List ℕ) → AreQuoted false inside → b ∷ left ≡ 34 ∷ (inside ++ 34 ∷ more) → after ≡ more)
    → (qs : List Piece) × Closes (suc n) qs × (after ≡ bytes qs ++ rest)
quote_in b n left rest after [] h e q cut = absurd h
quote_in b n left rest after (quoted inside ∷ ps) h e q cut =
    let one : 34 ∷ (inside ++ 34 ∷ []) ++ bytes ps ++ rest ≡ 34 ∷ (inside ++ 34 ∷ (bytes ps ++ rest)) = ap (λ t. 34 ∷ t) (append_assoc (inside ++ 34 ∷ []) (bytes ps) rest ∙ append_assoc inside (34 ∷ []) (bytes ps ++ rest)) in
    (ps, h.1, cut inside (bytes ps ++ rest) h.0 (e ∙ one))
quote_in b n left rest after (bracket x ∷ ps) (inl h) e q cut = let same : x ≡ 34 = cc in absurd (cc (sym h.0 ∙ ap is_opening same))
quote_in b n left rest after (bracket x ∷ ps) (inr h) e q cut = let same : x ≡ 34 = cc in absurd (cc (sym h.0 ∙ ap is_closing same))
quote_in b n left rest after (other x ∷ ps) h e q cut = let same : x ≡ 34 = cc in absurd (h.0 same)

-- A quote begins a string, which is one piece.
pub quote_step : (depth b : ℕ) (left rest after : List ℕ) → Open depth (b ∷ left) rest → (depth ≡ 0 → ⊥) → b ≡ 34 → ((inside more : List ℕ) → AreQuoted false inside → b ∷ left ≡ 34 ∷ (inside ++ 34 ∷ more) → after ≡ more)
    → Open depth after rest
quote_step depth b left rest after (inl (none, e)) some q cut = absurd (some none)
quote_step depth b left rest after (inr (n, ps, is, closes, e)) some q cut = let (qs, more, same) = quote_in b n left rest after ps closes e q cut in inr (n, qs, is, more, same)

byte_in : (b n depth : ℕ) (left rest : List ℕ) (ps : List Piece) → Closes (suc n) ps → b ∷ left ≡ bytes ps ++ rest → (b ≡ 34 → ⊥) → (is_opening b ≡ true → depth ≡ suc n + 1)
    → (is_opening b ≡ false → is_closing b ≡ true → depth ≡ suc n - 1) → (is_opening b ≡ false → is_closing b ≡ false → depth ≡ suc n) → Open depth left rest
byte_in b n depth left rest [] h e q opened closed same = absurd h
byte_in b n depth left rest (quoted inside ∷ ps) h e q opened closed same = absurd (q cc)
byte_in b n depth left rest (bracket x ∷ ps) (inl h) e q opened closed same =
    let one : x ≡ b = cc in
    let d : depth ≡ suc n + 1 = opened (subst (λ y. is_opening y ≡ true) one h.0) in
    inr (suc n, ps, omega arith, h.1, cc)
byte_in b zero depth left rest (bracket x ∷ ps) (inr h) e q opened closed same =
    let one : x ≡ b = cc in
    let closing = subst (λ y. is_closing y ≡ true) one h.0 in
    let d : depth ≡ suc zero - 1 = closed (closing_only b closing) closing in
    let tail : left ≡ bytes ps ++ rest = cc in
    inl (omega arith, tail ∙ ap (λ qs. bytes qs ++ rest) h.1)
byte_in b (suc n) depth left rest (bracket x ∷ ps) (inr h) e q opened closed same =
    let one : x ≡ b = cc in
    let closing = subst (λ y. is_closing y ≡ true) one h.0 in
    let d : depth ≡ suc (suc n) - 1 = closed (closing_only b closing) closing in
    inr (n, ps, omega arith, h.1, cc)
byte_in b n depth left rest (other x ∷ ps) h e q opened closed same =
    let one : x ≡ b = cc in
    inr (n, ps, same (subst (λ y. is_opening y ≡ false) one h.1) (subst (λ y. is_closing y ≡ false) one h.2), h.3, cc)

-- Another byte is one piece, which may open or close a bracket.
pub byte_step : (depth b next : ℕ) (left rest : List ℕ) → Open depth (b ∷ left) rest → (depth ≡ 0 → ⊥) → (b ≡ 34 → ⊥) → (is_opening b ≡ true → next ≡ depth + 1)
    → (is_opening b ≡ false → is_closing b ≡ true → next ≡ depth - 1) → (is_opening b ≡ false → is_closing b ≡ false → next ≡ depth) → Open next left rest
byte_step depth b next left rest (inl (none, e)) some q opened closed same = absurd (some none)
byte_step depth b next left rest (inr (n, ps, is, closes, e)) some q opened closed same =
    byte_in b n next left rest ps closes e q (λ i. opened i ∙ ap (λ k. k + 1) is) (λ i j. closed i j ∙ ap (λ k. k - 1) is) (λ i j. same i j ∙ is)

-- The first byte of an array or an object opens a bracket.
pub first_open : (b depth : ℕ) (left value rest : List ℕ) → IsNested value → b ∷ left ≡ value ++ rest → (is_opening b ≡ true → depth ≡ 0 + 1) → Open depth left rest
first_open b depth left value rest (o, ps, opens, closes, is) e opened =
    let front : b ∷ left ≡ o ∷ (bytes ps ++ rest) = e ∙ ap (λ t. t ++ rest) is in
    let one : o ≡ b = cc in
    let d : depth ≡ 0 + 1 = opened (subst (λ y. is_opening y ≡ true) one opens) in
    inr (zero, ps, omega arith, closes, cc)

-- When no bracket is open, the value has ended.
pub open_ended : (depth : ℕ) (left rest : List ℕ) → Open depth left rest → depth ≡ 0 → left ≡ rest
open_ended depth left rest (inl (none, e)) is = e
open_ended depth left rest (inr (n, ps, some, h, e)) is = absurd (omega arith)
