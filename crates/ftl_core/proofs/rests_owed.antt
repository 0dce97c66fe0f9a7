pub mod NoneOwed
pub mod RestsFilled
pub mod RestsGrow
pub mod RestsLeft
pub mod RestsNamed
pub mod RestsStay
pub mod WaitingSame
