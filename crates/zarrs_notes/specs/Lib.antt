pub mod BesideDocuments
pub mod Demands
pub mod FillValues
pub mod FindingTexts
pub mod Laws
pub mod NodeFindings
pub mod Shapes
pub mod StepsOfFindings
