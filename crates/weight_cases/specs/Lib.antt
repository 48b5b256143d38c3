pub mod Pairs
pub mod Grades
pub mod GradedValues
pub mod Parts
