pub mod FaultTexts
pub mod Bytes
