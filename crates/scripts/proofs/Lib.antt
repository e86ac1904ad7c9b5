pub mod Splits
pub mod Switches
pub mod Pairs
pub mod Spelled
pub mod Printed
