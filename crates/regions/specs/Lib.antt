pub mod Buffers
pub mod Bytes
pub mod Leases
pub mod Queues
