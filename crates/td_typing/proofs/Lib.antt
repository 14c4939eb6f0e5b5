pub mod Equations
pub mod KindLemmas
pub mod Complete
pub mod Sound
pub mod PlaceLemmas
pub mod LevelLemmas
pub mod Told
pub mod Staying
