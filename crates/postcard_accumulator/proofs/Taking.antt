-- From what a piece completes to what a feed returns for it: only the own answer of its frame
-- changes.
use Rattle.std.proofs.Common.{◌≡◌, ℕ, List, [], ◌++◌, refl, inl, inr}
use Rattle.std.specs.Borrow.{Bor}
use Rattle.postcard_cobs.specs.Groups.{Groups}
use Rattle.postcard_frame.specs.Frame.{HasNoData}
use Rattle.postcard_accumulator.specs.State.{State, holding, skipping}
use Rattle.postcard_accumulator.specs.Feeding.{IsFedHolding}
use Rattle.postcard_accumulator.specs.Values.{IsDecoded, IsReadOf}
use Rattle.postcard_accumulator.specs.declared.answers.FeedResult.{FeedResult}
use Rattle.postcard_accumulator.specs.declared.answers.FeedResult.TheVariants.{Consumed, OverFull}
use Rattle.postcard_accumulator.specs.declared.answers.FeedResult.TheVariants.{DeserError, Success}
use Rattle.postcard_accumulator.specs.declared.answers.Answer.{Answer}
use Rattle.postcard_accumulator.specs.declared.answers.Answer.TheVariants as answer

module _ {T : Type 0} (own : List ℕ → Answer T → Type 0) where
  -- What is right while bytes are held is right while a frame is being skipped.
  in_states : (taken : FeedResult (Bor (List ℕ))) (result : FeedResult T)
      → (taken ≡ Consumed → result ≡ Consumed) →
      ((n : ℕ) (h p : List ℕ) (after : State) → IsFedHolding n IsDecoded h p taken after
      → IsFedHolding n own h p result after) → IsReadOf own taken result
  in_states taken result same is n (holding h) p after t = is n h p after t
  in_states taken result same is n skipping p after (inl t) = inl (t.0, same t.1, t.2)
  in_states taken result same is n skipping p after (inr t) =
      inr (t.0, t.1, t.2, is n [] t.1 after t.3)

  pub read_consumed : IsReadOf own Consumed Consumed
  read_consumed = in_states Consumed Consumed (λ e. refl) (λ n h p after t. t)

  pub read_over_full : (rest : Bor (List ℕ)) → IsReadOf own (OverFull rest) (OverFull rest)
  read_over_full rest =
      in_states (OverFull rest) (OverFull rest) (λ e. cc) (λ n h p after t. t)

  -- A frame that has no data.
  pub read_refused : (rest : Bor (List ℕ))
      → ((f : List ℕ) → HasNoData f → own f answer.DeserError)
      → IsReadOf own (DeserError rest) (DeserError rest)
  read_refused rest is = in_states (DeserError rest) (DeserError rest) (λ e. cc)
      (λ n h p after t. (t.0, t.1, is (h ++ t.0) t.2, t.3))

  -- A frame whose data is refused.
  pub read_err : (d rest : Bor (List ℕ)) → ((f : List ℕ) → Groups f d.now → own f answer.DeserError)
      → IsReadOf own (Success d rest) (DeserError rest)
  read_err d rest is = in_states (Success d rest) (DeserError rest) (λ e. cc)
      (λ n h p after t. (t.0, t.1, is (h ++ t.0) t.2, t.3))

  -- A frame whose data has a value.
  pub read_ok : (d rest : Bor (List ℕ)) (v : T)
      → ((f : List ℕ) → Groups f d.now → own f (answer.Success v))
      → IsReadOf own (Success d rest) (Success v rest)
  read_ok d rest v is = in_states (Success d rest) (Success v rest) (λ e. cc)
      (λ n h p after t. (t.0, t.1, is (h ++ t.0) t.2, t.3))
