pub mod CallsRight
pub mod EndsTold
