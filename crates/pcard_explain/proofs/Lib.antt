pub mod LayoutLemmas
pub mod PlaceLemmas
pub mod RowLemmas
pub mod GroupLemmas
pub mod SplitLemmas
