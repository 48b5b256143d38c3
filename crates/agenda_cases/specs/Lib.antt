pub mod Orders
pub mod Lexical
