pub mod Changes
pub mod Columns
pub mod Contents
pub mod Index
pub mod Laws
pub mod Lists
pub mod Refusals
pub mod Sound
