pub mod Counting
pub mod ImageLemmas
mod ImageParts
pub mod Judging
pub mod SpellingLemmas
