-- Laws that the other crates cite. Conditions is the file to read first.
pub mod Conditions
pub mod Bools
pub mod Elem
pub mod Same
pub mod Known
pub mod Every
pub mod Places
pub mod Joined
pub mod Counting
pub mod Below
pub mod Copying
