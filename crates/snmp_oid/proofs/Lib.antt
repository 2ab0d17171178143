pub mod Dotted
pub mod Identifiers
pub mod Numeral
pub mod Written
pub mod ParseState
pub mod Rank
pub mod Comparisons
