pub mod FoundFiles
pub mod Loads
pub mod Members
pub mod StoreSteps
pub mod WholeInput
