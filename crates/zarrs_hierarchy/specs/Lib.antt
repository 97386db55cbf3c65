pub mod Laws
pub mod OpeningHierarchies
pub mod PairsOfHierarchies
pub mod Sinks
pub mod StepsOfHierarchies
pub mod Tree
