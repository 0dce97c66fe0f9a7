pub mod FoundInLists
pub mod OpenExchanges
pub mod TaggedLists
pub mod TaskLists
