pub mod AllAborted
pub mod ClaimsGivenBack
pub mod FirstMeant
pub mod ManagedRight
pub mod OneAborted
pub mod Services
