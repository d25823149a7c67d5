-- Document 02, Item 3, in reading order: the file header; a record; all records of a capture; a capture that is read in pieces; a window on one; what is written.
pub mod File
pub mod Record
pub mod Records
pub mod Walker
pub mod Window
pub mod Write
