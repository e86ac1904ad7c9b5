pub mod Faults
pub mod Limits
pub mod Admits
pub mod Written
