-- Reading a number digit by digit.
use Rattle.std.proofs.Common.{◌≡◌, ℕ, ◌<◌, ◌^◌, inl, inr, List, [], ◌∷◌, ◌++◌, Ok, refl}
use Rattle.std.proofs.Common.{sym, subst, arith}
use Rattle.postcard_wire.specs.declared.error.Error.{Error}
use Rattle.postcard_wire.specs.declared.error.Error.TheVariants.{DeserializeUnexpectedEnd}
use Rattle.postcard_wire.specs.declared.digits.Digits.{Digits}
use Rattle.postcard_wire.specs.Digits.{HasRead}
use Rattle.postcard_wire.specs.Number.{SpellsNum}
use Rattle.postcard_wire.proofs.Delimited.{num_front}
use Rattle.postcard_wire.proofs.Refused.{longer, none_spelled}
use Rattle.postcard_shape.specs.Shape.{never}
use Rattle.postcard_de_flavors.specs.Source.{Left, Takes, Laws}
use Rattle.postcard_de_nodes.specs.Reads.{IsReadError, ReadsFrom}
use Rattle.postcard_de_nodes.specs.Refuses.{RefusesFrom, WantsDigit, BadNumber}
use Rattle.postcard_shape.specs.Leaves.{Same}
use Rattle.postcard_de_nodes.specs.TakeLemmas.{nothing_taken, both_taken}
use Rattle.postcard_de_nodes.specs.ReadLemmas.{Delimits, Excludes, found}
use Rattle.postcard_de_nodes.specs.NumberLemmas.{Below}

-- The spellings of numbers of w bits are prefix-free.
number_delimited : (w : ℕ) → Delimits (SpellsNum w) (Below w)
number_delimited w n m p q x y a b s r e = num_front w n m p q x y s r e

-- The reasons to fail to read a number exclude a number at the front.
pub number_excludes : (w : ℕ) → Excludes never (WantsDigit w) (BadNumber w) (SpellsNum w) (Below w)
number_excludes w = record {
  within = λ x p q n y z wanted r s e. omega (arith, longer p q y z wanted.0 s.digits e, wanted.2);
  none = λ x p q f y z bad r s e. absurd (none_spelled w x p q y z bad.1 s r e);
  named = λ p e bad. subst (IsReadError never) (sym bad.0) tt;
}

-- The state within the loop: the digits so far were taken.
pub record Within {S : Type 0} (w : ℕ) (left : S → Left) (able : S → ℕ → Type 0)
    (may_leave : S → S → Type 0) (old : S) (digits : Digits) (now : S) : Type 0 where
  pub front : List ℕ
  pub read : HasRead w front digits
  pub taken : Takes left able old front now
  pub leaves : may_leave old now

module _ {S : Type 0} {left : S → Left} {able : S → ℕ → Type 0}
    {may_leave : S → S → Type 0} (laws : Laws left able may_leave) where
  -- Before the loop, no digit was taken.
  pub begun : (w : ℕ) (digits : Digits) (old : S) → HasRead w [] digits →
      Within w left able may_leave old digits old
  begun w digits old h =
      record { front = []; read = h; taken = nothing_taken old; leaves = laws.itself old }

  -- If a digit that was taken isn't the last one, the loop goes on.
  pub goes_on : {w : ℕ} {digits after : Digits} {old now new : S} {b : ℕ} →
      (so : Within w left able may_leave old digits now) → Takes left able now (b ∷ []) new →
      may_leave now new → HasRead w (so.front ++ b ∷ []) after →
      Within w left able may_leave old after new
  goes_on {old = old} {now = now} {new = new} {b = b} so t l h = record {
    front = so.front ++ b ∷ [];
    read = h;
    taken = both_taken so.taken t;
    leaves = laws.joins old now new so.leaves l;
  }

  -- Once the last digit was taken, the number was read.
  pub number_read : {w : ℕ} {digits : Digits} {old now new : S} {b n : ℕ} →
      (so : Within w left able may_leave old digits now) → Takes left able now (b ∷ []) new →
      may_leave now new → SpellsNum w n (so.front ++ b ∷ []) → n < 2 ^ w →
      ReadsFrom (SpellsNum w) (Below w) Same never left able may_leave old (Ok n) new
  number_read {w} {old = old} {now = now} {new = new} {b = b} {n = n} so t l s low =
      found (number_delimited w) n (so.front ++ b ∷ []) n low s refl (both_taken so.taken t)
      (laws.joins old now new so.leaves l)

  -- If the first byte ends the number, the number was read.
  pub first_reads : {w : ℕ} {old new : S} {b n : ℕ} → Takes left able old (b ∷ []) new →
      may_leave old new → SpellsNum w n (b ∷ []) → n < 2 ^ w →
      ReadsFrom (SpellsNum w) (Below w) Same never left able may_leave old (Ok n) new
  first_reads {w} {b = b} {n = n} t l s low =
      found (number_delimited w) n (b ∷ []) n low s refl t l

  -- If the source can't give the next digit, that is a reason to fail.
  pub number_ends : {w : ℕ} {digits : Digits} {old now new : S} {e : Error} →
      Within w left able may_leave old digits now → (able now 1 → ⊥) →
      e ≡ DeserializeUnexpectedEnd → RefusesFrom (WantsDigit w) (BadNumber w) left able old e new
  number_ends {now = now} so lacks is = inl (
    is,
    record {
      front = so.front;
      after_front = now;
      taken = so.taken;
      count = 1;
      wanted = (so.read.high, so.read.fewer, refl);
      lacks = lacks;
    },
  )

  -- If the last digit is too great, that is a reason to fail with `DeserializeBadVarint`.
  pub number_bad : {w : ℕ} {digits : Digits} {old now new : S} {b : ℕ} {e : Error} →
      (so : Within w left able may_leave old digits now) → Takes left able now (b ∷ []) new →
      BadNumber w (so.front ++ b ∷ []) e → RefusesFrom (WantsDigit w) (BadNumber w) left able old e
      new
  number_bad {b = b} so t bad =
      inr (record { front = so.front ++ b ∷ []; taken = both_taken so.taken t; why = bad })
