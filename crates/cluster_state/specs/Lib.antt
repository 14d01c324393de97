pub mod Answered
pub mod Applying
pub mod FirstLeases
pub mod Handled
pub mod LeaseMoves
pub mod Making
pub mod RangeAt
pub mod Tied
