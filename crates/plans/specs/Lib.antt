pub mod Faults
pub mod Versions
pub mod Switches
pub mod Series
pub mod Planned
pub mod Fences
pub mod Texts
