pub mod Fitting
pub mod Laws
pub mod Majority
pub mod Placing
pub mod Tests
