pub mod Bounds
pub mod Clock
pub mod Cluster
pub mod Courses
pub mod Kept
pub mod Laying
pub mod Steps
pub mod View
