-- What the functions' proofs cite, here and in the crates above.
pub mod ScanOf
pub mod Places
pub mod Loops
