pub mod Maps
pub mod Places
pub mod Below
pub mod Depths
pub mod OpenedPairs
pub mod LawProofs
