pub mod Aborted
pub mod Attempts
pub mod Callers
pub mod Legal
pub mod Promised
pub mod Rule
pub mod Serving
pub mod Waiting
