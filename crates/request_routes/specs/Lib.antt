pub mod Hints
pub mod Progress
pub mod Routes
