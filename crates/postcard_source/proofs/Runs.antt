-- The longest run of bytes at the beginning of a text that pass a test: it is one, and where it ends.
use Rattle.std.proofs.Common.{◌≡◌, ℕ, ◌<◌, Bool, false, List, [], ◌∷◌, ◌++◌, length, get_or, drop, zero, suc, refl, sym, ◌∙◌, subst, true≢false, arith}
use Rattle.std.specs.List.{AllPass}
use Rattle.postcard_schema_text.specs.FrontLemmas.{pass_head, pass_tail}
use Rattle.postcard_source.specs.Tokens.{EndsBy}

-- If a text begins with two runs that pass, and no byte that passes follows either, the runs and the remaining texts are equal.
pub one_run : (p : ℕ → Bool) (a b r q : List ℕ) → AllPass p a → AllPass p b → EndsBy p r → EndsBy p q → a ++ r ≡ b ++ q → (a ≡ b) × (r ≡ q)
one_run p [] [] r q f g h k e = (refl, e)
one_run p [] (y ∷ b) r q f g h k e = absurd (true≢false (sym (pass_head p y b g) ∙ subst (EndsBy p) e h))
one_run p (x ∷ a) [] r q f g h k e = absurd (true≢false (sym (pass_head p x a f) ∙ subst (EndsBy p) (sym e) k))
one_run p (x ∷ a) (y ∷ b) r q f g h k e =
    let tails : a ++ r ≡ b ++ q = cc in
    let heads : x ≡ y = cc in
    let both = one_run p a b r q (pass_tail p x a f) (pass_tail p y b g) h k tails in
    (cc (both.0, heads), both.1)

-- If the byte at index n doesn't pass, or the text ends there, the text from n on doesn't begin with a byte that passes.
pub ends_at : (p : ℕ → Bool) (n : ℕ) (text : List ℕ) → (n < length text → p (get_or text n 0) ≡ false) → EndsBy p (drop n text)
ends_at p zero [] h = tt
ends_at p zero (b ∷ text) h = h (omega arith)
ends_at p (suc n) [] h = tt
ends_at p (suc n) (b ∷ text) h = ends_at p n text (λ low. h (omega (arith, low)))
