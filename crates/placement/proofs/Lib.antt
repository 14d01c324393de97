mod Tested
mod TestedNodes
pub mod ChosenLemmas
pub mod Fit
pub mod FitRegions
pub mod Lacking
pub mod Lists
pub mod PlaceForms
pub mod Regions
