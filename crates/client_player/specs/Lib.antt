-- The replay format of `client_replay`: which request a line is, the line that an outcome prints, what playing a line comes to; then a request as the code reads it.
pub mod Request
pub mod Line
pub mod Play
pub mod Order
