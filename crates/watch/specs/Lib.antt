-- What the contracts of the program cite: what it read and what it handed to standard output.
pub mod Runs
