pub mod Uses
pub mod Links
pub mod Spots
pub mod Counts
