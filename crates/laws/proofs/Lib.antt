pub mod Lists
pub mod Copies
pub mod Tests
pub mod Bits
pub mod Slots
pub mod Words
