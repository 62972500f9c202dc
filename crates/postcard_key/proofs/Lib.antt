pub mod Steps
pub mod Views
pub mod LeafTexts
pub mod OneText
pub mod Sound
pub mod TextBytes
