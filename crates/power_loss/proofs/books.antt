pub mod BookGrows
pub mod FrontierClimbs
pub mod LastOfEachKey
pub mod LayerParts
pub mod PagesByName
pub mod SmallFacts
