pub mod FirstErase
pub mod FirstLife
pub mod NewDeviceExists
pub mod NewDeviceState
