pub mod Text
pub mod lexer
pub mod trees
pub mod private
