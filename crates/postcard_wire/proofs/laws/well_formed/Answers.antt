-- The laws are lemmas of `WellFormed`.
use Rattle.postcard_wire.proofs.WellFormed.{byte_well_formed, boolean_well_formed, num_well_formed, int_well_formed, char_well_formed, text_well_formed}
use Rattle.postcard_wire.proofs.laws.well_formed.Goals as goal

pub returns : goal.returns
returns c = record {
  byte = byte_well_formed;
  boolean = boolean_well_formed;
  num = num_well_formed;
  int = int_well_formed;
  character = char_well_formed;
  text = text_well_formed;
}
