mod Adding
pub mod AppendLaw
pub mod Areas
mod Bytes
mod Codec
pub mod ContentLaw
mod Counting
pub mod FoundLaws
pub mod Grown
pub mod OpenLaw
mod Parsing
pub mod Roots
pub mod Wrong
