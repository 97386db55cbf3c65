pub mod Meanings
pub mod PlainMeanings
pub mod MoreMeanings
pub mod ListedKeys
pub mod Versions
