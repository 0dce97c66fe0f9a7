mod Common
pub mod BucketCounts
pub mod Counts
pub mod LiveCounts
pub mod LowestWords
pub mod MarkedWords
pub mod Marks
pub mod Relations
pub mod Searches
pub mod States
pub mod Unpinned
pub mod VictimBuckets
pub mod VictimWords
pub mod WordBits
