-- At each return, the index, the number and the other links are written as far as the function came.
use Rattle.std.proofs.Common.{arith, ◌-◌, ap}
use Rattle.example_types.specs.Links.{chain_cases}
use Rattle.postcard.specs.Lemmas.{wrote_then, wrote_stop, wrote_err, wrote_last}
use Rattle.example_types.proofs.LinkLemmas.{link_wrote}
use Rattle.example_types.proofs.chain.+write_links.Goals as goal

pub returns-in_err-serialize_u32-in-Link-clause-wrote : goal.returns-in_err-serialize_u32-in-Link-clause-wrote
returns-in_err-serialize_u32-in-Link-clause-wrote g t c =
    let f = c.if-limit-eq0.false in
    wrote_err _ c.from_residual.ensures.1 (link_wrote c.args.limit (c.args.limit - 1) _ _ _ (omega arith)
    (wrote_stop _ _ c.in_err-serialize_u32-in-Link.ensures (λ e. absurd) absurd) (ap chain_cases c.in-Link.is))

pub returns-in_err-serialize_u16-in-Link-clause-wrote : goal.returns-in_err-serialize_u16-in-Link-clause-wrote
returns-in_err-serialize_u16-in-Link-clause-wrote g t c =
    let f = c.if-limit-eq0.false in
    wrote_err _ c.from_residual-in_err-serialize_u16-in-Link.ensures.1 (link_wrote c.args.limit (c.args.limit - 1) _ _ _ (omega arith)
    (wrote_then _ _ c.in_ok-serialize_u32-in-Link.ensures (wrote_stop _ _ c.in_err-serialize_u16-in-Link.ensures (λ e. absurd) absurd) (λ e q. q) (λ t. t)) (ap chain_cases c.in-Link.is))

pub returns-in_ok-serialize_u16-in-Link-clause-wrote : goal.returns-in_ok-serialize_u16-in-Link-clause-wrote
returns-in_ok-serialize_u16-in-Link-clause-wrote g t c =
    let f = c.if-limit-eq0.false in
    link_wrote c.args.limit (c.args.limit - 1) _ _ _ (omega arith)
    (wrote_then _ _ c.in_ok-serialize_u32-in-Link.ensures (wrote_then _ _ c.in_ok-serialize_u16-in-Link.ensures (wrote_last (rw c.deref.ensures at c.write_links.ensures.wrote)) (λ e q. q) (λ t. t)) (λ e q. q) (λ t. t)) (ap chain_cases c.in-Link.is)
