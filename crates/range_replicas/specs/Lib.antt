pub mod Beginning
pub mod RangeValue
pub mod Sound
pub mod Voters
