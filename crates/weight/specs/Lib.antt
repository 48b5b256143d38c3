-- What weights are. Algebra: exact weights and their laws; Sums and Odds: those of the two kinds.
-- Numbers: when the exact weights of a kind are numbers; NumberValues: the values that hold them; KindLaws: sums and odds keep the laws; Kinds: how numbers stand for their exact weights.
pub mod Algebra
pub mod Sums
pub mod Odds
pub mod Numbers
pub mod NumberValues
pub mod KindLaws
pub mod Kinds
