pub mod Text
pub mod Slots
pub mod Run
pub mod Percentage
pub mod HeldBytes
pub mod Listing
pub mod Cases
