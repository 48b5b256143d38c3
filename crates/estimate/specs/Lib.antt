-- What estimates are. Weighing: the lightest weight of a category; Entries: the entries of the category agenda;
-- Estimates: the laws of an estimate, and what raising a row comes to; Rules and Searches: what a search goes over, and what it has found;
-- TreeRules: productions as rules; Chains: chains from the start category; Settling: both as functions of the grammar;
-- Caps: the weights that numbers show. The files from CategoryWeights on have lemmas alone, for the laws that the impls keep.
pub mod Weighing
pub mod Entries
pub mod Estimates
pub mod Rules
pub mod Searches
pub mod TreeRules
pub mod Chains
pub mod Settling
pub mod Caps
pub mod CategoryWeights
pub mod TreeRulesLemmas
pub mod Settle
pub mod Cheaper
pub mod Frontier
pub mod LightWeights
pub mod ChainRules
pub mod CategoryOwn
pub mod ChainSteps
pub mod Raises
