pub mod VarintLoop
pub mod CountLoop
pub mod TextLemmas
pub mod ShortTextLemmas
pub mod CharLemmas
pub mod ByteLemmas
pub mod AtHandLemmas
