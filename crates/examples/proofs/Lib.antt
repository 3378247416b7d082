pub mod Starred
pub mod Profiles
pub mod UnitedBits
