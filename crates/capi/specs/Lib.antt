pub mod Hosts
pub mod Versions
