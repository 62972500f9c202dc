-- One feed returns the answers of the front that it takes of its piece.
use Rattle.std.proofs.Common.{◌≡◌, ℕ, ◌+◌, ◌<◌, ◌≤◌, inl, inr, List, [], ◌∷◌, ◌++◌, length, refl}
use Rattle.std.proofs.Common.{sym, ap, ◌∙◌, append_assoc, arith, length-append}
use Rattle.std.proofs.lemmas.List.{append-nil}
use Rattle.postcard_cobs.specs.Groups.{NoZero}
use Rattle.postcard_cobs.proofs.Made.{NoZero-append}
use Rattle.postcard_accumulator.specs.State.{State, holding, skipping, held_of}
use Rattle.postcard_accumulator.specs.Feeding.{IsFed, IsFedHolding, EndsFitting}
use Rattle.postcard_accumulator.specs.Streams.{IsAnswered, Answers, ended, answers_of, left_of}
use Rattle.postcard_accumulator.specs.declared.answers.FeedResult.{FeedResult}
use Rattle.postcard_accumulator.specs.declared.answers.FeedResult.TheVariants.{Consumed}
use Rattle.postcard_accumulator.specs.declared.answers.FeedResult.TheVariants as fed
use Rattle.postcard_accumulator.specs.declared.answers.Answer.{Answer}
use Rattle.postcard_accumulator.specs.declared.answers.Answer.TheVariants.{OverFull, DeserError}
use Rattle.postcard_accumulator.specs.declared.answers.Answer.TheVariants.{Success}

module _ {T : Type 0} (n : ℕ) (own : List ℕ → Answer T → Type 0) where
  -- A stream of one frame has one answer, and nothing is held after it.
  one_frame : (h q : List ℕ) (last : Answer T) → NoZero h → NoZero q →
      (length (h ++ q) + 1 ≤ n → own (h ++ q) last)
      → (n < length (h ++ q) + 1 → last ≡ OverFull) →
      IsAnswered n own (h ++ (q ++ 0 ∷ [])) (last ∷ []) (holding [])
  one_frame h q last zh zq is over = record {
    frames = (h ++ q) ∷ [];
    rest = [];
    split = record {
      is = sym (append_assoc h q (0 ∷ [])) ∙ sym (append-nil (ended (h ++ q)))
          ∙ sym (append-nil (ended (h ++ q) ++ []));
      frames_zero_free = (NoZero-append h q zh zq, tt);
      rest_zero_free = tt;
    };
    parts = last ∷ [];
    each = (record { its_own = is; over_full = over }, tt);
    fits = λ l. (refl, refl);
    over = λ l. absurd (omega arith);
  }

  cut : (q rest : List ℕ) → q ++ 0 ∷ rest ≡ (q ++ 0 ∷ []) ++ rest
  cut q rest = sym (append_assoc q (0 ∷ []) rest)

  -- A piece that ends a frame that has room has the frame's own answer.
  ends_fitting : (h w q rest : List ℕ) (last : Answer T) (d : State) → NoZero h
      → EndsFitting n h w q rest → own (h ++ q) last → d ≡ holding [] →
      (eaten : List ℕ) × (w ≡ eaten ++ rest) × IsAnswered n own (h ++ eaten) (last ∷ []) d
  ends_fitting h w q rest last d zh f is e = (
    q ++ 0 ∷ [],
    f.0.1 ∙ cut q rest,
    rw e
        (one_frame h q last zh f.0.0 (λ few. is)
        (λ many. let o = f.1 in absurd (omega (arith, length-append h q)))),
  )

  fed_holding : (h w : List ℕ) (r : FeedResult T) (d : State) → NoZero h
      → IsFedHolding n own h w r d →
      (eaten : List ℕ) × (w ≡ eaten ++ left_of r) × IsAnswered n own (h ++ eaten) (answers_of r) d
  fed_holding h w Consumed d zh f =
      let l = length-append h w in let room = f.1 in (
        w,
        sym (append-nil w),
        record {
          frames = [];
          rest = h ++ w;
          split = record {
            is = refl;
            frames_zero_free = tt;
            rest_zero_free =
                NoZero-append h w zh f.0;
          };
          parts = [];
          each = tt;
          fits = λ few. (refl, f.2);
          over = λ many. absurd (omega arith);
        },
      )
  fed_holding h w (fed.OverFull rest) d zh (inl f) = (
    f.0 ++ 0 ∷ [],
    f.1.1 ∙ cut f.0 rest.now,
    rw f.3
        (one_frame h f.0 OverFull zh f.1.0
        (λ few. let o = f.2 in absurd (omega (arith, length-append h f.0))) (λ many. refl)),
  )
  fed_holding h w (fed.OverFull rest) d zh (inr f) =
      let l = length-append h w in let over = f.1 in (
        w,
        sym (append-nil w) ∙ ap (λ (x : List ℕ). w ++ x) (sym f.2),
        record {
          frames = [];
          rest = h ++ w;
          split = record {
            is = refl;
            frames_zero_free = tt;
            rest_zero_free =
                NoZero-append h w zh f.0;
          };
          parts = [];
          each = tt;
          fits = λ few. absurd (omega arith);
          over = λ many. (refl, f.3);
        },
      )
  fed_holding h w (fed.DeserError rest) d zh f =
      ends_fitting h w f.0 rest.now DeserError d zh f.1 f.2 f.3
  fed_holding h w (fed.Success v rest) d zh f =
      ends_fitting h w f.0 rest.now (Success v) d zh f.1 f.2 f.3

  pub feeds_law : (c d : State) (p : List ℕ) (r : FeedResult T) → NoZero (held_of c)
      → IsFed n own c p r d
      → (eaten : List ℕ) × (p ≡ eaten ++ left_of r) × Answers n own c eaten (answers_of r) d
  feeds_law (holding h) d w r zc f = fed_holding h w r d zc f
  feeds_law skipping d w r zc (inl f) = (
    w,
    sym (append-nil w)
        ∙ ap (λ (x : FeedResult T). w ++ left_of x) (sym f.1),
    inl
        (f.0, ap (λ (x : FeedResult T). answers_of x) f.1, f.2),
  )
  feeds_law skipping d w r zc (inr f) =
      let g = fed_holding [] f.1 r d tt f.3 in (
        f.0 ++ 0 ∷ g.0,
        f.2.1 ∙ ap (λ (x : List ℕ). f.0 ++ 0 ∷ x) g.1
            ∙ sym (append_assoc f.0 (0 ∷ g.0) (left_of r)),
        inr (f.0, g.0, (f.2.0, refl), g.2),
      )
