pub mod Appends
pub mod Moves
pub mod Placed
pub mod Stage
pub mod Ties
