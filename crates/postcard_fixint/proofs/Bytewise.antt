-- Reading bytes one by one: what was taken so far, and why it fails.
use Rattle.std.proofs.Common.{◌≡◌, ℕ, suc, ◌+◌, ◌<◌, ◌≤◌, inl, inr, List, [], ◌∷◌, ◌++◌, length, Option, Ok}
use Rattle.std.proofs.Common.{refl, ap, ◌∙◌, arith, length-append}
use Rattle.postcard_wire.specs.declared.error.Error.{Error}
use Rattle.postcard_wire.specs.Tree.{Byte}
use Rattle.postcard_wire.specs.Spelling.{Spells}
use Rattle.postcard_wire.specs.Reading.{IsByte}
use Rattle.postcard_shape.specs.Shape.{never}
use Rattle.postcard_de_flavors.specs.Source.{Left, Takes, Laws}
use Rattle.postcard_de_nodes.specs.Reads.{ReadsFrom}
use Rattle.postcard_de_nodes.specs.Refuses.{RefusesFrom, WantsByte, WantsBytes, NoneBad}
use Rattle.postcard_de_nodes.specs.ReadLemmas.{ends_after_front}
use Rattle.postcard_de_nodes.specs.TakeLemmas.{nothing_taken, both_taken}

-- A front of n bytes was taken.
pub record Took {S : Type 0} (left : S → Left) (able : S → ℕ → Type 0) (old : S) (n : ℕ) (now : S) : Type 0
  where
    pub front : List ℕ
    pub long : length front ≡ n
    pub taken : Takes left able old front now

module _ {S : Type 0} {left : S → Left} {able : S → ℕ → Type 0} where
  -- At first no byte was taken.
  pub took_none : (s : S) → Took left able s 0 s
  took_none s = record { front = []; long = refl; taken = nothing_taken s }

  -- If a byte was read next, one more was taken.
  pub took_more : {may_leave : S → S → Type 0} {old now new : S} {n b : ℕ} → Took left able old n now →
      ReadsFrom Spells IsByte (λ t v. t ≡ Byte v) never left able may_leave now (Ok b) new →
      Took left able old (n + 1) new
  took_more {n = n} {b = b} so r =
      let g = r.gives in
      let one : g.front ≡ b ∷ [] = rw g.has at g.is_spelled in
      record {
        front = so.front ++ g.front;
        long = omega (arith, length-append so.front g.front, ap length one, so.long);
        taken = both_taken so.taken g.taken;
      }

  -- If n bytes aren't all taken and the next can't be, n bytes can't be.
  pub byte_lacks : {may_leave : S → S → Type 0} → Laws left able may_leave → {old now new : S} {i n : ℕ}
      {e : Error} → i < n → Took left able old i now → RefusesFrom WantsByte NoneBad left able now e new →
      RefusesFrom (WantsBytes n) NoneBad left able old e new
  byte_lacks laws {old = old} {n = n} few so (inl (is, ends)) =
      let front = length ends.front in
      let enough : length so.front + (front + ends.count) ≤ n =
      omega (arith, so.long, few, ap length ends.wanted.0, ends.wanted.1) in
      ends_after_front (nothing_taken old) (refl, refl)
      (λ all. ends.lacks (ends.taken.keeps ends.count (so.taken.keeps (front + ends.count)
      (laws.fewer old (length so.front + (front + ends.count)) n enough all)))) is
  byte_lacks laws few so (inr bad) = absurd bad.why
