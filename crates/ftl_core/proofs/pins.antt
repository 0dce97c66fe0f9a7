pub mod FoundPins
pub mod OwedPins
pub mod PinsAlike
pub mod PinsDiffer
pub mod PinsGone
pub mod PinsSettled
pub mod PinsWanted
pub mod ReadsAwaited
