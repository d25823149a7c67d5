-- Document 02, Item 12, in reading order: what a site makes of its capture; how two sites differ on a record; the list of differences; two captures compared;
-- what holds of every comparison; the same in windows: one side, a turn in lockstep, what is to come, and captures in pieces.
pub mod Account
pub mod Difference
pub mod Listing
pub mod Compared
pub mod Laws
pub mod Site
pub mod Lockstep
pub mod ToCome
pub mod Windows
