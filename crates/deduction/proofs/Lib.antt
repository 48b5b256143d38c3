pub mod Numbers
pub mod Keys
pub mod Derivations
pub mod Frontier
pub mod Turns
pub mod Ends
pub mod Offers
pub mod Estimates
