pub mod Bytes
pub mod Keywords
pub mod Lexer
pub mod Pieces
pub mod Words
pub mod Layout
pub mod inner
