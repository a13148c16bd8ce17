pub mod Bytes
pub mod Strings
pub mod Lexed
pub mod Parsed
pub mod Printed
