-- Lemmas on refusals, and on what taking phrases leaves of a text.
use Rattle.std.proofs.Common.{◌≡◌, ℕ, ◌<◌, ◌≤◌, List, [], ◌∷◌, length, refl, sym, ap, subst, ◌∙◌, arith, inl, inr}
use Rattle.std.specs.Prelude.{Result, Ok, Err, IfOk, IfErr, IsErrAnd, string_bytes}
use Rattle.std.proofs.lemmas.List.{length-append}
use Rattle.postcard_schema_text.specs.declared.error.Problem.{Problem}
use Rattle.postcard_schema_text.specs.declared.error.Problem.TheVariants.{OutOfMemory}
use Rattle.postcard_schema_text.specs.declared.scan.ProblemAt.{ProblemAt}
use Rattle.postcard_schema.specs.declared.schema.Named.{Named}
use Rattle.postcard_schema.specs.declared.schema.Schema.{Schema}
use Rattle.postcard_schema_text.specs.Text.{TakesPhrase, IsSign}
use Rattle.postcard_schema_text.specs.Names.{IsNewTo}
use Rattle.postcard_schema_text.specs.Grammar.{IsNew}
use Rattle.postcard_schema_text.specs.Fronts.{HasFront, IsRefusal, Reads}

-- A refusal of what follows from B is a refusal of B.
pub refusal : {p : Problem} {A B : Type 0} → (B → A) → IsRefusal p A → IsRefusal p B
refusal f (inl memory) = inl memory
refusal f (inr none) = inr (λ b. none (f b))

-- A refusal remains one with another problem, if that is `OutOfMemory` where the first one was.
pub refusal_as : {p q : Problem} {A : Type 0} → (p ≡ OutOfMemory → q ≡ OutOfMemory) → IsRefusal p A → IsRefusal q A
refusal_as f (inl memory) = inl (f memory)
refusal_as f (inr none) = inr none

-- The error that a `?` passes on.
pub refused_err : {R : Type 0} {A : Type 0} (r : Result R ProblemAt) (e : ProblemAt) → IsErrAnd r (λ y. y ≡ e) → IsRefusal e.problem A
    → IfErr r (λ found. IsRefusal found.problem A)
refused_err (Ok x) e h k = absurd h
refused_err {R} {A} (Err y) e h k = subst (λ z. IsRefusal z.problem A) (sym h) k

-- A call that reads refuses.
pub refuses : {A : Type 0} {Same : A → A → Type 0} {Next : List ℕ → Type 0} {P : A → List ℕ → Type 0} {a d : List ℕ} {e : ProblemAt}
    → IsRefusal e.problem (HasFront Next P a) → Reads Same Next P a (Err e) d
refuses h = record { spelled = tt; one = tt; refused = h }

-- The same of the error that a `?` passes on.
pub reads_err : {A : Type 0} {Same : A → A → Type 0} {Next : List ℕ → Type 0} {P : A → List ℕ → Type 0} {a d : List ℕ} {r : Result A ProblemAt} (e : ProblemAt)
    → IsErrAnd r (λ y. y ≡ e) → IsRefusal e.problem (HasFront Next P a) → Reads Same Next P a r d
reads_err {r = Ok x} e h k = absurd h
reads_err {Next = Next} {P = P} {a = a} {r = Err y} e h k = refuses (subst (λ z. IsRefusal z.problem (HasFront Next P a)) (sym h) k)

-- What reads P reads Q, if taking a phrase of P takes one of Q, and the other way round.
pub reads_as : {A : Type 0} {Same : A → A → Type 0} {Next More : List ℕ → Type 0} {P Q : A → List ℕ → Type 0} {a b d : List ℕ} {r : Result A ProblemAt} → Reads Same Next P b r d
    → ((x : A) → TakesPhrase (P x) b d → TakesPhrase (Q x) a d) → ((x : A) (q : List ℕ) → TakesPhrase (Q x) a q → More q → TakesPhrase (P x) b q × Next q) → Reads Same More Q a r d
reads_as {r = Ok x} h to from = record { spelled = to x h.spelled; one = λ y q k goes. let f = from y q k goes in h.one y q f.0 f.1; refused = tt }
reads_as {r = Err e} h to from = refuses (refusal (λ (y, q, k, goes). let f = from y q k goes in (y, q, f.0, f.1)) h.refused)

-- What makes something of what was read reads it, if it makes just that, and if it may be made of each phrase.
pub reads_made : {A : Type 0} {Same : A → A → Type 0} {Next : List ℕ → Type 0} {P : A → List ℕ → Type 0} {a d : List ℕ} {Made : A → Type 0} {May : Type 0} (r : Result A ProblemAt)
    → IfOk r Made → IfErr r (λ found. IsRefusal found.problem May) → ((x : A) → Made x → Reads Same Next P a (Ok x) d) → (HasFront Next P a → May) → Reads Same Next P a r d
reads_made (Ok x) made refused takes may = takes x made
reads_made (Err e) made refused takes may = refuses (refusal may refused)

-- Taking a phrase makes the text no longer.
pub takes_le : (P : List ℕ → Type 0) (a b : List ℕ) → TakesPhrase P a b → length b ≤ length a
takes_le P a b (front, h, e) = let long = ap length e ∙ length-append front b in omega (arith, long)

-- Taking a sign makes the text shorter.
pub takes_less : (sign : ℕ) (a b : List ℕ) → TakesPhrase (IsSign sign) a b → length b < length a
takes_less sign a b (front, (blanks, phrase, blank, is, e), whole) =
    let one = ap length is in
    let long = ap length whole ∙ length-append front b in
    let inner = ap length e ∙ length-append blanks phrase in
    omega (arith, one, long, inner)

-- A list without elements is empty.
pub is_empty : (xs : List ℕ) → length xs ≤ 0 → xs ≡ []
is_empty [] h = refl
is_empty (x ∷ xs) h = absurd (omega (arith, h))

-- A new field or variant is one, and its name is new.
pub forget_new : (before : List (Named Schema)) (P : Named Schema → List ℕ → Type 0) (n : Named Schema) (a b : List ℕ)
    → TakesPhrase (IsNew before P n) a b → TakesPhrase (P n) a b
forget_new before P n a b (front, (new, h), whole) = (front, h, whole)

-- A field or a variant whose name was checked has a new name.
pub is_new : (before : List (Named Schema)) (P : Named Schema → List ℕ → Type 0) (n : Named Schema) (a b : List ℕ)
    → TakesPhrase (IsNew before P n) a b → IsNewTo before (string_bytes n.name)
is_new before P n a b (front, (new, h), whole) = new
