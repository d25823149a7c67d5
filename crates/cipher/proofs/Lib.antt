-- Laws that belong to no one function.
pub mod Words
pub mod Table
pub mod Inverse
pub mod Xor
pub mod Bounds
pub mod Packed
pub mod Rounds
pub mod Schedule
pub mod Vectors
