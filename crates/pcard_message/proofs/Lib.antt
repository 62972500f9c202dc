pub mod EncodeLemmas
pub mod FailureLemmas
pub mod ReadingLemmas
pub mod DecodeLemmas
pub mod StreamLemmas
