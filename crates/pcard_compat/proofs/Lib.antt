pub mod EachLemmas
pub mod TextLemmas
