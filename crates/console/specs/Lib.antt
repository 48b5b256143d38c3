pub mod Hex
pub mod Decimal
pub mod Texts
pub mod Steps
pub mod Sessions
pub mod Lists
