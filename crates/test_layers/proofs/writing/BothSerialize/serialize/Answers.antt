-- The count is written, and then each element.
use Rattle.postcard_ser.proofs.PartByPart.{wrote_then, wrote_stop, wrote_err}
use Rattle.test_layers.proofs.writing.BothSerialize.serialize.Goals as goal

pub returns-in_err-serialize_seq-clause-wrote : goal.returns-in_err-serialize_seq-clause-wrote
returns-in_err-serialize_seq-clause-wrote g c =
    wrote_err _ c.from_residual.ensures.1 (wrote_stop _ _ c.in_err-serialize_seq.ensures.known (λ e. absurd) absurd)

pub returns-in_err-serialize_element-clause-wrote : goal.returns-in_err-serialize_element-clause-wrote
returns-in_err-serialize_element-clause-wrote g c =
    wrote_err _ c.from_residual-in_err-serialize_element.ensures.1
    (wrote_then _ _ c.in_ok-serialize_seq.ensures.known (wrote_stop _ _ c.in_err-serialize_element.ensures.wrote (λ e. absurd) absurd) (λ e. absurd) absurd)

pub returns-in_err-serialize_element-2-clause-wrote : goal.returns-in_err-serialize_element-2-clause-wrote
returns-in_err-serialize_element-2-clause-wrote g c =
    wrote_err _ c.from_residual-in_err-serialize_element-2.ensures.1
    (wrote_then _ _ c.in_ok-serialize_seq.ensures.known
    (wrote_then _ _ c.in_ok-serialize_element.ensures.wrote (wrote_stop _ _ c.in_err-serialize_element-2.ensures.wrote (λ e. absurd) absurd) (λ e. absurd) absurd) (λ e. absurd) absurd)

pub returns-clause-wrote : goal.returns-clause-wrote
returns-clause-wrote g c =
    wrote_then _ _ c.in_ok-serialize_seq.ensures.known
    (wrote_then _ _ c.in_ok-serialize_element.ensures.wrote
    (wrote_then _ _ c.in_ok-serialize_element-2.ensures.wrote c.end.ensures.wrote (λ e. absurd) absurd) (λ e. absurd) absurd) (λ e. absurd) absurd
