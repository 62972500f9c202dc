mod LinkLemmas
pub mod ReadLemmas
