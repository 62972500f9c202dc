use Rattle.std.proofs.Common.{◌≡◌, inl, inr, rules}
use Rattle.postcard_de.proofs.Lists.{one_more_left}
use Rattle.postcard_de.proofs.Mapped.{reads_as, fails_as}
use Rattle.postcard_de.proofs.cases.CaseDeserializeCaseOwned.deserialize_case_owned.Goals as goal

pub returns-in_err-value-in-0 : goal.returns-in_err-value-in-0
returns-in_err-value-in-0 g c =
    rw c.in-0.is (fails_as (λ e. inl) (λ t h. h) c.from_residual.ensures.1 c.in_err-value-in-0.ensures)

pub returns-in_ok-value-in-0 : goal.returns-in_ok-value-in-0
returns-in_ok-value-in-0 g c =
    rw c.in-0.is (reads_as (λ e. inl) (λ t h. h) (λ t h. h) (λ t h. h) c.in_ok-value-in-0.ensures)

pub returns-in_err-rest-in_default : goal.returns-in_err-rest-in_default
returns-in_err-rest-in_default g c =
    let isnt : c.args.index ≡ 0 → ⊥ = search rules in
    rw (one_more_left c.args.index isnt) (fails_as (λ e. inr) (λ t h. h)
    c.from_residual-in_err-rest-in_default.ensures.1 c.in_err-rest-in_default.ensures)

pub returns-in_ok-rest-in_default : goal.returns-in_ok-rest-in_default
returns-in_ok-rest-in_default g c =
    let isnt : c.args.index ≡ 0 → ⊥ = search rules in
    rw (one_more_left c.args.index isnt) (reads_as (λ e. inr) (λ t h. h) (λ t h. h) (λ t h. h)
    c.in_ok-rest-in_default.ensures)
