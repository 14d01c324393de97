pub mod Asking
pub mod Fates
pub mod Machine
pub mod Moving
pub mod Refusing
pub mod Soundness
pub mod Steps
pub mod Taking
