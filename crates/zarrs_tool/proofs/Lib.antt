pub mod Blocks
pub mod Folders
pub mod Fractions
pub mod Lines
pub mod Runs
pub mod Status
