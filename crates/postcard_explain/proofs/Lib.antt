mod PartLemmas
mod Spelled
mod NoFront
mod LineLemmas
