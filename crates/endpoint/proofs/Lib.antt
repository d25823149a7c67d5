-- The theorems: Names and Blocks (when two names are the same, and what a block is). The others carry these, the functions' proofs, and those of listener
-- and client.
pub mod Names
pub mod Blocks
pub mod Clear
pub mod Chain
