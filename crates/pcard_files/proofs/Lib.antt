pub mod BracketLemmas
pub mod CallLemmas
pub mod ColonLemmas
pub mod FileLemmas
pub mod InputLemmas
pub mod MessageLemmas
pub mod WordLemmas
