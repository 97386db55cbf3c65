pub mod Same
pub mod StepsOfSame
