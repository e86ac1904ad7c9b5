pub mod Faults
pub mod Ports
pub mod Building
