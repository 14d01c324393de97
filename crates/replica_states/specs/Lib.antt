pub mod Making
pub mod FirstRange
pub mod RangeTies
pub mod Restarts
