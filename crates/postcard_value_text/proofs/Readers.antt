-- Answers of readers: how those of parts make those of the whole, and those that are passed on.
use Rattle.std.proofs.Common.{◌≡◌, ℕ, false, List, [], ◌∷◌, ◌++◌, sym, subst, ◌∙◌}
use Rattle.std.specs.Char.{is_ascii_whitespace}
use Rattle.std.specs.Prelude.{Result, Ok, Err, MatchResult, OnOk, IfErr, IsErrAnd}
use Rattle.std.proofs.lemmas.List.{append_assoc, append-nil}
use Rattle.std.proofs.lemmas.Result.{IfOk-weaker}
use Rattle.postcard_schema_text.specs.Text.{AreBlank, Then, TakesPhrase, IsSign}
use Rattle.postcard_schema_text.specs.FrontLemmas.{takes_split}
use Rattle.postcard_schema_text.specs.Phrases.{takes_two}
use Rattle.postcard_value_text.specs.declared.error.Stop.{Stop}
use Rattle.postcard_value_text.specs.declared.error.Stop.TheVariants.{Memory}
use Rattle.postcard_value_text.specs.Accepted.{FollowsValue, ReadsAs, ReadsText}
use Rattle.postcard_value_text.specs.Spelled.{Phrase}
use Rattle.postcard_value_text.proofs.Fronts.{one_rest}

-- The error that a `?` passes on is that of its callee.
pub memory_passed : {V : Type 0} (P : V → Type 0) (r : Result V Stop) (e : Stop) → IsErrAnd r (λ y. y ≡ e) → e ≡ Memory → MatchResult r P (λ stop. stop ≡ Memory)
memory_passed P (Ok x) e h is = absurd h
memory_passed P (Err y) e h is = h ∙ is

-- A last call whose answer is passed on unchanged.
pub reads_as : {V P Q : Type 0} (r : Result V Stop) → (P → Q) → OnOk r P → IfErr r (λ stop. stop ≡ Memory) → MatchResult r (λ v. Q) (λ stop. stop ≡ Memory)
reads_as (Ok x) f done failed = f done
reads_as (Err e) f done failed = failed

-- The same of a fact of what was read.
pub read_more : {V : Type 0} {P Q : V → Type 0} (r : Result V Stop) (l x : List ℕ) → ((v : V) → P v → Q v) → ReadsAs P r l x → ReadsAs Q r l x
read_more (Ok v) l x f h = (f v h.0, h.1)
read_more (Err e) l x f h = h

-- Blanks up to the end of the text.
pub blank_rest : (b : List ℕ) → TakesPhrase AreBlank b [] → AreBlank b
blank_rest b (front, blank, whole) = subst AreBlank (sym (whole ∙ append-nil front)) blank

-- ---- calls that take one phrase

-- A phrase of P is taken. If N holds, it is the only one that is next.
pub record Took (N : Type 0) (P : Phrase) (a b : List ℕ) : Type 0 where
  pub taken : TakesPhrase P a b
  pub only : N → (x : List ℕ) → TakesPhrase P a x → b ≡ x

-- No phrase of P is next.
abbrev pub Misses : Phrase → List ℕ → Type 0
Misses P a = (x : List ℕ) → TakesPhrase P a x → ⊥

pub took_sign : {N : Type 0} (sign : ℕ) {a b : List ℕ} → is_ascii_whitespace sign ≡ false → TakesPhrase (IsSign sign) a b → Took N (IsSign sign) a b
took_sign sign {a} {b} black h = record { taken = h; only = λ names x k. one_rest sign a b x black h k }

-- ---- readers

module _ {T U : Type 0} {see : T → U} {N : Type 0} {R : U → Type 0} {S : U → List ℕ → Type 0} {a b : List ℕ} where
  -- A value that is seen as the same thing.
  pub held_as : {V : Type 0} {look : V → U} {t : T} {v : V} → see t ≡ look v → ReadsText see N R S a (Ok t) b → ReadsText look N R S a (Ok v) b
  held_as same h = record {
    value = subst R same h.value;
    spelled = subst (λ u. TakesPhrase (S u) a b) same h.spelled;
    accepted = λ names u x is k goes. let got = h.accepted names u x is k goes in (got.0 ∙ same, got.1);
  }

  -- An error that a `?` passes on.
  pub passed_on : {V : Type 0} {look : V → U} {e : Stop} (r : Result V Stop) → IsErrAnd r (λ y. y ≡ e) → ReadsText see N R S a (Err e) b → ReadsText look N R S a r b
  passed_on (Ok v) back h = absurd back
  passed_on (Err y) back h = record { value = tt; spelled = tt; accepted = λ names u x is k goes. back ∙ h.accepted names u x is k goes }

  -- What is left of the text after an error doesn't matter, nor what else would have been read.
  pub failed : {V : Type 0} {look : V → U} {e : Stop} {c : List ℕ} → ReadsText see N R S a (Err e) b → ReadsText look N R S a (Err e) c
  failed h = record { value = tt; spelled = tt; accepted = h.accepted }

  -- What may be read if N holds may be read if M holds, from which N follows.
  pub named_as : {M : Type 0} {r : Result T Stop} → (M → N) → ReadsText see N R S a r b → ReadsText see M R S a r b
  named_as f h = record { value = h.value; spelled = h.spelled; accepted = λ names. h.accepted (f names) }

  -- An error that is `Memory` if there is such a prefix, or that comes if there is none.
  pub fails_with : {e : Stop} → (N → (u : U) (x : List ℕ) → R u → TakesPhrase (S u) a x → FollowsValue x → e ≡ Memory)
      → ReadsText see N R S a (Err e) b
  fails_with full = record { value = tt; spelled = tt; accepted = full }

  pub refused : {e : Stop} → (N → (u : U) (x : List ℕ) → R u → TakesPhrase (S u) a x → FollowsValue x → ⊥) → ReadsText see N R S a (Err e) b
  refused none = fails_with (λ names u x is k goes. absurd (none names u x is k goes))

  -- An allocation failed.
  pub no_memory : (r : Result T Stop) (e : Stop) → IsErrAnd r (λ y. y ≡ e) → e ≡ Memory → ReadsText see N R S a r b
  no_memory (Ok v) e back is = absurd back
  no_memory (Err y) e back is = record { value = tt; spelled = tt; accepted = λ names u x what k goes. back ∙ is }

module _ {T U : Type 0} (see : T → U) (N : Type 0) (R : U → Type 0) (S : U → List ℕ → Type 0) where
  -- The same things by other phrases, if these are at the same places.
  pub spelled_as : (S' : U → List ℕ → Type 0) {a b : List ℕ} (r : Result T Stop) → ((u : U) (x : List ℕ) → TakesPhrase (S u) a x → TakesPhrase (S' u) a x)
      → ((u : U) (x : List ℕ) → TakesPhrase (S' u) a x → TakesPhrase (S u) a x) → ReadsText see N R S a r b → ReadsText see N R S' a r b
  spelled_as S' {a} {b} r to from h = record {
    value = h.value;
    spelled = IfOk-weaker r (λ v. TakesPhrase (S (see v)) a b) (λ v. TakesPhrase (S' (see v)) a b) (λ v k. to (see v) b k) h.spelled;
    accepted = λ names u x is k goes. h.accepted names u x is (from u x k) goes;
  }

  -- The answer of a reader that goes on after a phrase of P.
  pub after_phrase : (P : Phrase) {a m b : List ℕ} (r : Result T Stop) → Took N P a m → ReadsText see N R S m r b → ReadsText see N R (λ u. Then P (S u)) a r b
  after_phrase P {a} {m} {b} r p h = record {
    value = h.value;
    spelled = IfOk-weaker r (λ v. TakesPhrase (S (see v)) m b) (λ v. TakesPhrase (Then P (S (see v))) a b) (λ v k. takes_two P (S (see v)) a m b p.taken k) h.spelled;
    accepted = λ names u x is k goes.
        let s = takes_split P (S u) a x k in
        h.accepted names u x is (subst (λ y. TakesPhrase (S u) y x) (sym (p.only names s.0 s.1)) s.2) goes;
  }

  pub phrase_missed : (P : Phrase) {a b : List ℕ} (e : Stop) → (N → Misses P a) → ReadsText see N R (λ u. Then P (S u)) a (Err e) b
  phrase_missed P {a} e none = refused (λ names u x is k goes. let s = takes_split P (S u) a x k in none names s.0 s.1)

  -- The answer of a reader before a phrase of Q, which may follow a value.
  module _ (Q : U → Phrase) (follows : (u : U) (x y : List ℕ) → TakesPhrase (Q u) x y → FollowsValue x) where
    pub before_phrase : {a m b : List ℕ} {v : T} → ReadsText see N R S a (Ok v) m → Took N (Q (see v)) m b → ReadsText see N R (λ u. Then (S u) (Q u)) a (Ok v) b
    before_phrase {a} {m} {b} {v} h q = record {
      value = h.value;
      spelled = takes_two (S (see v)) (Q (see v)) a m b h.spelled q.taken;
      accepted = λ names u x is k goes.
          let s = takes_split (S u) (Q u) a x k in
          let got = h.accepted names u s.0 is s.1 (follows u s.0 x s.2) in
          (got.0, q.only names x (subst (λ w. TakesPhrase (Q w) m x) got.0 (subst (λ y. TakesPhrase (Q u) y x) (sym got.1) s.2)));
    }

    pub refused_before : {a m b : List ℕ} {e : Stop} → ReadsText see N R S a (Err e) m → ReadsText see N R (λ u. Then (S u) (Q u)) a (Err e) b
    refused_before {a} h = fails_with (λ names u x is k goes.
        let s = takes_split (S u) (Q u) a x k in
        h.accepted names u s.0 is s.1 (follows u s.0 x s.2))

    pub missed_after : {a m b : List ℕ} {v : T} (e : Stop) → ReadsText see N R S a (Ok v) m → Misses (Q (see v)) m → ReadsText see N R (λ u. Then (S u) (Q u)) a (Err e) b
    missed_after {a} {m} e h none = refused (λ names u x is k goes.
        let s = takes_split (S u) (Q u) a x k in
        let got = h.accepted names u s.0 is s.1 (follows u s.0 x s.2) in
        none x (subst (λ w. TakesPhrase (Q w) m x) got.0 (subst (λ y. TakesPhrase (Q u) y x) (sym got.1) s.2)))

-- ---- loops

-- The values vs before those of the result, or the result's error.
abbrev pub prefixed : {V : Type 0} → List V → Result (List V) Stop → Result (List V) Stop
prefixed vs (Ok ws) = Ok (vs ++ ws)
prefixed vs (Err e) = Err e

-- Reading the whole ends as reading the remaining text does. If that succeeds, the values read before come first.
pub record Going {V : Type 0} (Whole Rest : Result (List V) Stop → List ℕ → Type 0) (done : List V) : Type 0 where
  pub ends : (r : Result (List V) Stop) (b : List ℕ) → Rest r b → Whole (prefixed done r) b

-- Before the first item, reading what is left is reading the whole.
pub going_begins : {V : Type 0} (Whole : Result (List V) Stop → List ℕ → Type 0) {done : List V} → done ≡ [] → Going Whole Whole done
going_begins {V} Whole none = rw none (record { ends = ends })
  where
    ends : (r : Result (List V) Stop) (b : List ℕ) → Whole r b → Whole (prefixed [] r) b
    ends (Ok vs) b h = h
    ends (Err e) b h = h

-- After one more item, reading the whole still ends as reading what is left.
pub going_on : {V : Type 0} {Whole Rest Next : Result (List V) Stop → List ℕ → Type 0} {done more : List V} {v : V} → Going Whole Rest done → more ≡ done ++ v ∷ []
    → ((r : Result (List V) Stop) (b : List ℕ) → Next r b → Rest (prefixed (v ∷ []) r) b) → Going Whole Next more
going_on {V} {Whole} {Rest} {Next} {done} {more} {v} so is step = rw is (record { ends = ends })
  where
    ends : (r : Result (List V) Stop) (b : List ℕ) → Next r b → Whole (prefixed (done ++ v ∷ []) r) b
    ends (Ok vs) b h = subst (λ ws. Whole (Ok ws) b) (sym (append_assoc done (v ∷ []) vs)) (so.ends (Ok (v ∷ vs)) b (step (Ok vs) b h))
    ends (Err e) b h = so.ends (Err e) b (step (Err e) b h)

-- The loop ends: with no more value, with one more, or with an error.
pub going_ends : {V : Type 0} {Whole Rest : Result (List V) Stop → List ℕ → Type 0} {done : List V} {b : List ℕ} → Going Whole Rest done → Rest (Ok []) b → Whole (Ok done) b
going_ends {V} {Whole} {Rest} {done} {b} so h = subst (λ ws. Whole (Ok ws) b) (append-nil done) (so.ends (Ok []) b h)

-- After the last item, the whole is read.
pub going_last : {V : Type 0} {Whole Rest : Result (List V) Stop → List ℕ → Type 0} {done more : List V} {v : V} {b : List ℕ} → Going Whole Rest done → more ≡ done ++ v ∷ []
    → Rest (Ok (v ∷ [])) b → Whole (Ok more) b
going_last {V} {Whole} {Rest} {done} {more} {v} {b} so is h = subst (λ ws. Whole (Ok ws) b) (sym is) (so.ends (Ok (v ∷ [])) b h)

-- If what is left can't be read, the whole can't be read.
pub going_stops : {V : Type 0} {Whole Rest : Result (List V) Stop → List ℕ → Type 0} {done : List V} {e : Stop} {b : List ℕ} → Going Whole Rest done → Rest (Err e) b → Whole (Err e) b
going_stops {V} {Whole} {Rest} {done} {e} {b} so h = so.ends (Err e) b h
