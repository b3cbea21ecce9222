pub mod FirstByte
pub mod Header
pub mod Octal
