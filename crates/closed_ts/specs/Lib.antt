pub mod Routing
pub mod Serving
pub mod Targets
