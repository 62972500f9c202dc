mod Same
mod Splits
