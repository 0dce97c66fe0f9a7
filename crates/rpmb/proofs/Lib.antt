pub mod AskedChecks
pub mod Compared
pub mod DataFrames
pub mod DataJoined
pub mod Filled
pub mod Formed
pub mod Parts
pub mod Signed
