-- Best-first deduction. Counts: how many there are of a kind; Deduction: rules, derivations and keys; Search: what holds between turns;
-- Theorems: what a search has found.
pub mod Counts
pub mod Deduction
pub mod Search
pub mod Theorems
