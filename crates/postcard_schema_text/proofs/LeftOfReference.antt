-- What remains of a type after a `&`, after a `&` and its lifetime, and if there is no `&`.
-- Signs are bytes: 38 is `&`, 39 `'`.
use Rattle.std.proofs.Common.{◌≡◌, ℕ, zero, suc, ◌≤◌, List, [], ◌∷◌, ◌++◌, length, refl, sym, ap, ◌∙◌, subst, arith, inl, inr}
use Rattle.postcard_schema.specs.declared.schema.Schema.{Schema}
use Rattle.postcard_schema_text.specs.Text.{Then, TakesPhrase, IsSign, IsWord, EndsWord, IsIdentifier, TakesLifetime}
use Rattle.postcard_schema_text.specs.Grammar.{IsPlain, IsLifetimeRest, IsReferenceRest, IsBehind, IsReferred}
use Rattle.postcard_schema_text.specs.Phrases.{takes_two, takes_as}
use Rattle.postcard_schema_text.specs.FrontLemmas.{WordTaken, takes_split, not_empty}
use Rattle.postcard_schema_text.proofs.Heads.{plain_head, referred_head, starts_plain, starts_referred, starts_not_by}
use Rattle.postcard_schema_text.proofs.Left.{after_sign, behind_sign}
use Rattle.postcard_schema_text.proofs.LeftOfEnum.{whole_word}
use Rattle.postcard_schema_text.proofs.LeftOfType.{taken_whole}
use Rattle.postcard_schema_text.proofs.Refusals.{takes_le, takes_less}

abbrev Types : Type 1
Types = Schema → List ℕ → Type 0

-- Without a `&` a type that is no enum is a plain one.
pub plain_is_referred : (T : Types) (s : Schema) (a r : List ℕ) → TakesPhrase (IsPlain T s) a r → TakesPhrase (IsReferred T s) a r
plain_is_referred T s a r h = takes_as (IsPlain T s) (IsReferred T s) a r (λ t k. (zero, k)) h

-- Without a `&`, a type that may have one is a plain type.
pub referred_is_plain : (T : Types) (s : Schema) (a r : List ℕ) → ((b : List ℕ) → TakesPhrase (IsSign 38) a b → ⊥) → TakesPhrase (IsReferred T s) a r
    → TakesPhrase (IsPlain T s) a r
referred_is_plain T s a r none (front, (zero, h), whole) = (front, h, whole)
referred_is_plain T s a r none (front, (suc n, h), whole) =
    let k = takes_split (IsSign 38) (IsReferenceRest (IsBehind n T s)) a r (front, h, whole) in absurd (none k.0 k.1)

-- If each phrase of P is one of Q, what follows a `&` before P is what follows it before Q.
rest_as : (P Q : List ℕ → Type 0) → ((t : List ℕ) → P t → Q t) → (t : List ℕ) → IsReferenceRest P t → IsReferenceRest Q t
rest_as P Q f t (inl h) = inl (f t h)
rest_as P Q f t (inr (x, y, quote, (name, named, (word, back, spelled, (apart, h), e2)), e)) =
    inr (x, y, quote, (name, named, (word, back, spelled, (apart, f back h), e2)), e)

-- A `&` may be followed by further `&`.
rest_of : (T : Types) (s : Schema) (t : List ℕ) → IsReferenceRest (IsReferred T s) t → (n : ℕ) × IsReferenceRest (IsBehind n T s) t
rest_of T s t (inl (n, h)) = (n, inl h)
rest_of T s t (inr (x, y, quote, (name, named, (word, back, spelled, (apart, (n, h)), e2)), e)) =
    (n, inr (x, y, quote, (name, named, (word, back, spelled, (apart, h), e2)), e))

-- What is left after a `&`, and what is taken by taking it.
pub reference_left : (T : Types) (s : Schema) (a b r : List ℕ) → TakesPhrase (IsSign 38) a b → TakesPhrase (IsReferred T s) a r
    → TakesPhrase (IsReferenceRest (IsReferred T s)) b r
reference_left T s a b r sign (front, (zero, h), whole) = absurd (starts_not_by starts_plain 38 a b refl refl (plain_head T s a r (front, h, whole)) sign)
reference_left T s a b r sign (front, (suc n, h), whole) =
    takes_as (IsReferenceRest (IsBehind n T s)) (IsReferenceRest (IsReferred T s)) b r (λ t g. rest_as (IsBehind n T s) (IsReferred T s) (λ u q. (n, q)) t g)
    (behind_sign 38 (IsReferenceRest (IsBehind n T s)) a b r refl sign (front, h, whole))

-- Taking a `&` and what follows it takes a type with a `&`.
pub reference_takes : (T : Types) (s : Schema) (a b r : List ℕ) → TakesPhrase (IsSign 38) a b → TakesPhrase (IsReferenceRest (IsReferred T s)) b r
    → TakesPhrase (IsReferred T s) a r
reference_takes T s a b r sign (front, h, whole) =
    let k = rest_of T s front h in
    takes_as (Then (IsSign 38) (IsReferenceRest (IsBehind k.0 T s))) (IsReferred T s) a r (λ t g. (suc k.0, g)) (takes_two (IsSign 38) (IsReferenceRest (IsBehind k.0 T s)) a b r sign (front, k.1, whole))

-- No type begins with a `'`, and none is empty.
no_quote : (T : Types) (s : Schema) (a b r : List ℕ) → TakesPhrase (IsReferred T s) a r → TakesPhrase (IsSign 39) a b → ⊥
no_quote T s a b r h quote = starts_not_by starts_referred 39 a b refl refl (referred_head T s a r h) quote

-- If a text doesn't go on with a word, its first bytes don't either.
front_ends : (back r : List ℕ) → EndsWord (back ++ r) → EndsWord back
front_ends [] r h = tt
front_ends (b ∷ back) r h = h

apart_ends : (T : Types) (s : Schema) (back r : List ℕ) → IsReferred T s back → EndsWord back → EndsWord (back ++ r)
apart_ends T s [] r h ends = let head = referred_head T s [] [] ([], h, refl) in absurd (not_empty head.2)
apart_ends T s (b ∷ back) r h ends = ends

-- The lifetime that is next, or none.
pub lifetime_next : (T : Types) (s : Schema) (b r : List ℕ) → TakesPhrase (IsReferenceRest (IsReferred T s)) b r
    → (c : List ℕ) × TakesLifetime b c × TakesPhrase (IsReferred T s) c r
lifetime_next T s b r (front, inl h, whole) = (b, inl (λ after quote. no_quote T s b after r (front, h, whole) quote, refl), (front, h, whole))
lifetime_next T s b r (front, inr h, whole) = by (takes_split (IsSign 39) (IsLifetimeRest (IsReferred T s)) b r (front, h, whole))
  where
    by : (k : List ℕ) × TakesPhrase (IsSign 39) b k × TakesPhrase (IsLifetimeRest (IsReferred T s)) k r
        → (c : List ℕ) × TakesLifetime b c × TakesPhrase (IsReferred T s) c r
    by (k, quote, (f, (name, named, rest), e)) =
        let m = takes_split (IsWord name) (λ back. EndsWord back × IsReferred T s back) k r (f, rest, e) in
        let ends = subst EndsWord (sym m.2.2) (apart_ends T s m.2.0 r m.2.1.1 m.2.1.0) in
        (m.0, inr (k, name, named, quote, m.1, ends), (m.2.0, m.2.1.1, m.2.2))

-- One lifetime at most is next, and what is left after it is the same.
one_lifetime : (b c d : List ℕ) → TakesLifetime b c → TakesLifetime b d → c ≡ d
one_lifetime b c d (inl (none, same)) (inl (again, also)) = same ∙ sym also
one_lifetime b c d (inl (none, same)) (inr (k, name, named, quote, word, ends)) = absurd (none k quote)
one_lifetime b c d (inr (k, name, named, quote, word, ends)) (inl (none, same)) = absurd (none k quote)
one_lifetime b c d (inr (k, name, named, quote, word, ends)) (inr (m, other, also, quote2, word2, ends2)) =
    let e : k ≡ m = after_sign 39 b k m refl quote quote2 in
    let taken : WordTaken m name c = taken_whole name m c named.0 (subst (λ t. TakesPhrase (IsWord name) t c) e word) ends in
    sym (whole_word other name m c d also.0 taken word2 ends2).1

-- The name of the lifetime that is next is the word that was taken after the `'`.
pub lifetime_name : (a b name c after : List ℕ) → TakesPhrase (IsSign 39) a b → WordTaken b name c → TakesLifetime a after → IsIdentifier name
lifetime_name a b name c after quote taken (inl (none, same)) = absurd (none b quote)
lifetime_name a b name c after quote taken (inr (k, other, named, also, word, ends)) =
    let e : k ≡ b = after_sign 39 a k b refl also quote in
    let same = whole_word other name b c after named.0 taken (subst (λ t. TakesPhrase (IsWord other) t after) e word) ends in
    subst IsIdentifier same.0 named

-- What is left after the lifetime.
pub lifetime_left : (T : Types) (s : Schema) (b c r : List ℕ) → TakesLifetime b c → TakesPhrase (IsReferenceRest (IsReferred T s)) b r → TakesPhrase (IsReferred T s) c r
lifetime_left T s b c r taken h = let k = lifetime_next T s b r h in subst (λ t. TakesPhrase (IsReferred T s) t r) (one_lifetime b k.0 c k.1 taken) k.2

-- A type after the lifetime is what follows the `&`.
pub lifetime_takes : (T : Types) (s : Schema) (b c r : List ℕ) → TakesLifetime b c → TakesPhrase (IsReferred T s) c r → TakesPhrase (IsReferenceRest (IsReferred T s)) b r
lifetime_takes T s b c r (inl (none, same)) h =
    takes_as (IsReferred T s) (IsReferenceRest (IsReferred T s)) b r (λ t k. inl k) (subst (λ t. TakesPhrase (IsReferred T s) t r) same h)
lifetime_takes T s b c r (inr (k, name, named, quote, word, ends)) (back, h, e) =
    let apart : EndsWord back = front_ends back r (subst EndsWord e ends) in
    takes_as (Then (IsSign 39) (IsLifetimeRest (IsReferred T s))) (IsReferenceRest (IsReferred T s)) b r (λ t q. inr q)
    (takes_two (IsSign 39) (IsLifetimeRest (IsReferred T s)) b k r quote
    (takes_as (Then (IsWord name) (λ x. EndsWord x × IsReferred T s x)) (IsLifetimeRest (IsReferred T s)) k r (λ t q. (name, named, q))
    (takes_two (IsWord name) (λ x. EndsWord x × IsReferred T s x) k c r word (back, (apart, h), e))))

-- A lifetime makes the text no longer.
pub lifetime_le : (b c : List ℕ) → TakesLifetime b c → length c ≤ length b
lifetime_le b c (inl (none, same)) = let e = ap length same in omega (arith, e)
lifetime_le b c (inr (k, name, named, quote, word, ends)) = let less = takes_less 39 b k quote in let le = takes_le (IsWord name) k c word in omega (arith, less, le)
