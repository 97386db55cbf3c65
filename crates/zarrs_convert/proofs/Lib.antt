pub mod Numbers
pub mod RawBits
pub mod Lookups
pub mod Filters
pub mod FillLines
pub mod Conversions
pub mod PlainConversions
