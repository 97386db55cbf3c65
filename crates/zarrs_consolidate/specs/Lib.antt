pub mod CarryingOut
pub mod FaultTexts
pub mod Laws
pub mod Plans
pub mod Refusals
pub mod StepsOfPlans
