pub mod Token
pub mod Lexeme
pub mod Lexes
pub mod LongestMatch
