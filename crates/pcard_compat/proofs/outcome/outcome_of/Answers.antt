-- The two types are compared in one direction, or in both.
use Rattle.std.proofs.Common.{◌≡◌, ℕ, List, Bool, true, false, refl, sym, subst}
use Rattle.pcard_call.proofs.WordLemmas.{if_ok}
use Rattle.pcard_compat.specs.declared.request.Options.{Options}
use Rattle.pcard_compat.specs.declared.version.Side.TheVariants.{Old, New}
use Rattle.pcard_compat.specs.declared.version.Version.{Version}
use Rattle.pcard_compat.specs.Outcomes.{IsBothWays, IsOutcome, IsOutcomeOf, IsWay}
use Rattle.pcard_compat.proofs.outcome.outcome_of.Goals as goal

in_both : (options : Options) (old new : Version) (said : List ℕ) (safe : Bool) → IsBothWays options old new said safe → options.both ≡ true
    → old.side ≡ Old → new.side ≡ New → IsOutcome options old.schema.now new.schema.now said safe
in_both options old new said safe both is is_old is_new = record {
  writer = old;
  reader = new;
  is_old = is_old;
  is_new = is_new;
  old_type = refl;
  new_type = refl;
  outcome = subst (λ b. IsOutcomeOf b options old new said safe) (sym is) both;
}

in_one : (options : Options) (old new : Version) (said : List ℕ) (safe : Bool) → IsWay options old new said safe → options.both ≡ false
    → old.side ≡ Old → new.side ≡ New → IsOutcome options old.schema.now new.schema.now said safe
in_one options old new said safe way is is_old is_new = record {
  writer = old;
  reader = new;
  is_old = is_old;
  is_new = is_new;
  old_type = refl;
  new_type = refl;
  outcome = subst (λ b. IsOutcomeOf b options old new said safe) (sym is) way;
}

pub returns-then-options-clause-outcome : goal.returns-then-options-clause-outcome
returns-then-options-clause-outcome c =
    if_ok c.both_ways.result (λ outcome h. in_both c.args.options _ _ _ _ h c.if-options.true refl refl) c.both_ways.ensures.outcome

pub returns-else-options-clause-outcome : goal.returns-else-options-clause-outcome
returns-else-options-clause-outcome c =
    if_ok c.one_way.result (λ outcome h. in_one c.args.options _ _ _ _ h c.if-options.false refl refl) c.one_way.ensures.outcome
