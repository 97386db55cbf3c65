pub mod AddedCalls
pub mod Harmless
