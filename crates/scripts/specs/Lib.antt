pub mod Splits
pub mod Texts
pub mod Forms
pub mod Printed
