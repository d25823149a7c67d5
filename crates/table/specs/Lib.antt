-- The scan of the table, slot by slot, for the code alone: what it finds is `scan_of` of the protocol crate.
pub mod Scan
