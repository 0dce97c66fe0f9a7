pub mod FirstFault
pub mod FromFields
pub mod HostFault
pub mod HostSpelled
pub mod Spelled
