pub mod DocumentsAtKeys
pub mod ErrorTexts
pub mod Exists
pub mod Laws
pub mod Meaning
pub mod Refusals
pub mod Small
pub mod StepsOfDocuments
