-- What the functions' proofs cite.
pub mod Receive
pub mod Parts
