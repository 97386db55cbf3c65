pub mod FaultTexts
pub mod Lines
pub mod Words
