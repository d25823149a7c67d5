-- Lists of any elements, then lists of bytes: for the definitions in the crates above. No protocol.
pub mod Lists
pub mod Bytes
