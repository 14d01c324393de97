mod Additions
pub mod Creations
mod Edits
pub mod Found
mod Index
pub mod Kept
mod Limits
pub mod Names
mod Regions
mod SoundTables
mod Steps
mod Tokens
