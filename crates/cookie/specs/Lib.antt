-- For the code alone: what it makes of a cookie that was given. What is right and fresh is the protocol crate's.
pub mod Check
