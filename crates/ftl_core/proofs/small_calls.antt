pub mod ClaimedBlocks
pub mod Claims
pub mod PinCalls
pub mod ReadersClaims
pub mod ShortenedClaims
pub mod SmallCalls
