pub mod Switches
pub mod Sizes
pub mod Fences
