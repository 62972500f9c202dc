pub mod EndLemmas
pub mod ExplainLemmas
pub mod Lines
pub mod NamedLemmas
pub mod Parts
pub mod RequestLemmas
pub mod SizeLemmas
