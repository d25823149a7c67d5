-- What listener and client share beside the wire format, in reading order: addresses and names; the checks that every call begins with.
pub mod Address
pub mod Checks
