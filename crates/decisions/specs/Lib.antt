-- For the code alone: what it makes of a segment's first checks, and the rules on the parts of a view. What they come to is the protocol crate's.
pub mod Received
pub mod Parts
