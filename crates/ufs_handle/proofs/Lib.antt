mod AllJobsLeave
mod BareValues
pub mod CallLists
pub mod CallsAreEvents
mod DiesOneByOne
mod FilledBlocks
mod HandleCalls
mod JobsLeave
mod NewDies
mod OpenedDies
pub mod OwnCallLists
pub mod OwnDies
mod Profiles
mod StoppedDies
pub mod StopsAreEvents
mod Told
mod TornPages
mod Unopened
mod Values
mod Walked
