-- Both laws are one lemma, applied to each order.
use Rattle.postcard_shape.specs.Base256.{little, big}
use Rattle.postcard_fixint.proofs.Spelled.{only_bytes}
use Rattle.postcard_fixint.proofs.laws.base_256.Goals as goal

pub returns : goal.returns
returns c = record { lowest_first = only_bytes little; highest_first = only_bytes big }
