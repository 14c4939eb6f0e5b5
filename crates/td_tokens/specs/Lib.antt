pub mod Words
pub mod Lex
pub mod Lexer
pub mod View
pub mod Laws
