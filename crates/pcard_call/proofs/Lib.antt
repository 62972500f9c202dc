pub mod WordLemmas
pub mod OneReading
