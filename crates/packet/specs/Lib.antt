-- Document 02, Item 3, in reading order: packets that are read; packets that are written.
pub mod Ip
pub mod Write
