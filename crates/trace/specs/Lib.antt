pub mod Trace
pub mod Content
pub mod Cases
