-- Lemmas for finding a part of a JSON text: an array without its first item, an object without its first member.
use Rattle.std.proofs.Common.{◌≡◌, ℕ, zero, suc, ◌<◌, map, length, drop, get_or, arith, Bool, true, false, List, [], ◌∷◌, ◌++◌, refl, sym, ap, subst, ◌∙◌, inl, inr, true≢false}
use Rattle.std.specs.Prelude.{◌==◌, ◌||◌}
use Rattle.std.proofs.lemmas.Bool.{eqb-true, or_cases}
use Rattle.std.proofs.lemmas.List.{append_assoc}
use Rattle.std.specs.Char.{is_ascii_whitespace}
use Rattle.postcard_schema_text.specs.Text.{unblank, Led, Then, TakesPhrase, IsSign}
use Rattle.postcard_schema_text.specs.FrontLemmas.{pass_head, takes_split, unblank_black, unblank_more}
use Rattle.postcard_value_text.proofs.Fronts.{one_rest}
use Rattle.postcard_schema.specs.Paths.{plain_step}
use Rattle.postcard_schema.specs.declared.path.Step.{Step}
use Rattle.postcard_value_json_read.specs.Parts.{AreValues, Lead, LeadsTo}
use Rattle.postcard_value_json_read.specs.Values.{EndsScalar, IsValue, ends_scalar, is_closing, is_opening}

-- ---- blanks

opening_black : (b : ℕ) → is_opening b ≡ true → is_ascii_whitespace b ≡ false
opening_black b e = elim (or_cases (b == 91) (b == 123) e) [
  | inl is ↦ subst (λ y. is_ascii_whitespace y ≡ false) (sym (eqb-true b 91 is)) refl
  | inr is ↦ subst (λ y. is_ascii_whitespace y ≡ false) (sym (eqb-true b 123 is)) refl
]

scalar_black : (b : ℕ) → ends_scalar b ≡ false → is_ascii_whitespace b ≡ false
scalar_black b e = by (is_ascii_whitespace b) (b == 44 || is_closing b) e
  where
    by : (blank other : Bool) → (blank || other) ≡ false → blank ≡ false
    by true other e = absurd (true≢false e)
    by false other e = refl

blank_ends : (b : ℕ) → is_ascii_whitespace b ≡ true → ends_scalar b ≡ true
blank_ends b e = ap (λ x. x || (b == 44 || is_closing b)) e

-- A value begins with no blank.
pub value_first : (value more : List ℕ) → IsValue value → unblank (value ++ more) ≡ value ++ more
value_first [] more (inl (inside, quoted, e)) = absurd (not_empty e)
  where
    not_empty : {x : ℕ} {xs : List ℕ} → [] ≡ x ∷ xs → ⊥
    not_empty e = cc e
value_first [] more (inr (inl (b, ps, opens, closes, e))) = absurd (not_empty e)
  where
    not_empty : {x : ℕ} {xs : List ℕ} → [] ≡ x ∷ xs → ⊥
    not_empty e = cc e
value_first [] more (inr (inr (scalar, begins))) = absurd begins
value_first (x ∷ xs) more (inl (inside, quoted, e)) =
    let first : x ≡ 34 = cc e in
    unblank_black x (xs ++ more) (subst (λ y. is_ascii_whitespace y ≡ false) (sym first) refl)
value_first (x ∷ xs) more (inr (inl (b, ps, opens, closes, e))) =
    let first : x ≡ b = cc e in
    unblank_black x (xs ++ more) (opening_black x (subst (λ y. is_opening y ≡ true) (sym first) opens))
value_first (x ∷ xs) more (inr (inr (scalar, begins))) = unblank_black x (xs ++ more) (scalar_black x scalar.0)

-- What is left after blanks begins with the phrase that is next, if that begins with no blank.
pub led_front : (P : List ℕ → Type 0) (text rest : List ℕ) → ((phrase more : List ℕ) → P phrase → unblank (phrase ++ more) ≡ phrase ++ more) → TakesPhrase (Led P) text rest
    → (phrase : List ℕ) × P phrase × (unblank text ≡ phrase ++ rest)
led_front P text rest first (front, (blanks, phrase, blank, is, e), whole) =
    let all : text ≡ blanks ++ (phrase ++ rest) = whole ∙ ap (λ t. t ++ rest) e ∙ append_assoc blanks phrase rest in
    (phrase, is, ap unblank all ∙ unblank_more blanks (phrase ++ rest) blank ∙ first phrase rest is)

-- A text that begins with a value has it after the blanks.
pub value_front : (text rest : List ℕ) → TakesPhrase (Led IsValue) text rest → (value : List ℕ) × IsValue value × (unblank text ≡ value ++ rest)
value_front text rest = led_front IsValue text rest value_first

-- ---- signs

-- A sign that ends a number, after blanks or none, ends a number.
pub sign_ends : (sign : ℕ) (text rest : List ℕ) → ends_scalar sign ≡ true → TakesPhrase (IsSign sign) text rest → EndsScalar text
sign_ends sign text rest end (front, ([], phrase, blank, is, e), whole) = subst EndsScalar (sym (whole ∙ ap (λ t. t ++ rest) (e ∙ is))) end
sign_ends sign text rest end (front, (b ∷ blanks, phrase, blank, is, e), whole) =
    subst EndsScalar (sym (whole ∙ ap (λ t. t ++ rest) e)) (blank_ends b (pass_head is_ascii_whitespace b blanks blank))

-- A call that takes a sign takes the one that is next.
pub sign_taken : (taken : Bool) (sign : ℕ) (old new rest : List ℕ) → is_ascii_whitespace sign ≡ false → (taken ≡ true → TakesPhrase (IsSign sign) old new)
    → (taken ≡ false → is_ascii_whitespace sign ≡ false → (after : List ℕ) → TakesPhrase (IsSign sign) old after → ⊥) → TakesPhrase (IsSign sign) old rest → (taken ≡ true) × (new ≡ rest)
sign_taken true sign old new rest black take none h = (refl, one_rest sign old new rest black (take refl) h)
sign_taken false sign old new rest black take none h = absurd (none refl black rest h)

-- ---- items

-- What a call that skips the value at the start of a text leaves: the text after that value.
abbrev pub Skips : List ℕ → List ℕ → Type 0
Skips text after = (value rest : List ℕ) → IsValue value → EndsScalar rest → text ≡ value ++ rest → after ≡ rest

-- Once an item and the `,` after it are skipped, one item less is before the wanted one.
pub item_less : (n : ℕ) (left items after next : List ℕ) (taken : Bool) → TakesPhrase (AreValues (suc n)) left items → Skips (unblank left) after
    → (taken ≡ true → TakesPhrase (IsSign 44) after next) → (taken ≡ false → is_ascii_whitespace 44 ≡ false → (rest : List ℕ) → TakesPhrase (IsSign 44) after rest → ⊥)
    → TakesPhrase (AreValues n) next items
item_less n left items after next taken h skips take none =
    let (a, value, more) = takes_split (Led IsValue) (Then (IsSign 44) (AreValues n)) left items h in
    let (b, sign, others) = takes_split (IsSign 44) (AreValues n) a items more in
    let (v, is, whole) = value_front left a value in
    let same : after ≡ a = skips v a is (sign_ends 44 a b refl sign) whole in
    let got = sign_taken taken 44 after next b refl take none (subst (λ t. TakesPhrase (IsSign 44) t b) (sym same) sign) in
    subst (λ t. TakesPhrase (AreValues n) t items) (sym got.1) others

-- ---- steps

-- A path with one step more leads to a part of the part.
pub lead_step : (d : Step) (ss : List Step) (i : ℕ) (text next rest : List ℕ) → i < length ss → Lead (map plain_step (drop i ss)) text rest
    → ((part : List ℕ) → LeadsTo (plain_step (get_or ss i d)) text part → next ≡ part) → Lead (map plain_step (drop (suc i) ss)) next rest
lead_step d [] i text next rest low h cut = absurd (omega (arith, low))
lead_step d (s ∷ ss) zero text next rest low (part, step, more) cut = subst (λ t. Lead (map plain_step ss) t rest) (sym (cut part step)) more
lead_step d (s ∷ ss) (suc i) text next rest low h cut = lead_step d ss i text next rest (omega (arith, low)) h cut
