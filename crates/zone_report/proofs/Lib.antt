mod Homes
mod Lines
mod Nodes
mod Parsing
mod Placeable
mod Placed
mod RangesOf
