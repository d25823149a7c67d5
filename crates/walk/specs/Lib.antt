-- Document 02, Item 3, in reading order: a record fed to a listener; a walk over all records.
pub mod Feed
pub mod Walk
