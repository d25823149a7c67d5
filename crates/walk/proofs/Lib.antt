-- The laws: Fed (a record is fed where it is a call). The theorems: Walk (a walk is its calls, and demand 3 holds of it).
pub mod Fed
pub mod Walk
