pub mod FewestLivePages
pub mod LivePages
pub mod VictimPages
