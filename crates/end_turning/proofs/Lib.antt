pub mod Turns
pub mod Fronts
pub mod TurnsLast
pub mod TurnsDone
