pub mod Faults
pub mod Offsets
pub mod Families
pub mod Reading
