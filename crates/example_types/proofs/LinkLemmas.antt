-- A lemma on writing a link, from the writing of its parts.
use Rattle.std.proofs.Common.{◌≡◌, inl, inr, Result, ℕ, [], ◌++◌, suc}
use Rattle.postcard_wire.specs.declared.error.Error.{Error}
use Rattle.postcard_wire.specs.Number.{digits}
use Rattle.postcard_wire.specs.Spelling.{canonical}
use Rattle.postcard_ser_flavors.specs.declared.flavor.Flavor.{Ghosts}
use Rattle.postcard_ser.specs.Writing.{Wrote}
use Rattle.postcard.specs.Lemmas.{wrote_as}
use Rattle.example_types.specs.declared.chain.Chain.{Chain}
use Rattle.postcard_shape.specs.declared.cases.Case.TheVariants.{This, Next}
use Rattle.example_types.specs.Links.{chain_shape, chain_cases}

-- A link is written as its index, its number, and the chain after it, whose limit is one less.
pub link_wrote : {S O : Type 0} {F : Ghosts S O} {s u : S} {r : Result (Unit {0}) Error} (d m n : ℕ) (v w : Chain) → d ≡ suc m → Wrote F s (digits 1 ++ (digits n ++ (canonical ((chain_shape m).tree w) ++ []))) ((chain_shape m).refusal w) (chain_shape m).text r u → chain_cases v ≡ Next (This (n, (w, tt))) → Wrote F s (canonical ((chain_shape d).tree v)) ((chain_shape d).refusal v) (chain_shape d).text r u
link_wrote d m n v w e k i = rw e (rw i (wrote_as k (λ e q. inr (inl q)) (λ t. inr (inl (inr (inl t))))))
