-- Bools: joined tests. SameBytes, CompareLoop: when two lists of bytes are the same, and the loops that compare them. Places, FirstIndex: the loops that ask
-- whether every element passes a test, count those that do, and search for the first. Sums: sums, counts and first places after a change. Elements: a list from its elements. ByteLists,
-- Lent: lists of bytes, and outputs that were lent.
pub mod Bools
pub mod SameBytes
pub mod CompareLoop
pub mod Places
pub mod FirstIndex
pub mod Sums
pub mod Elements
pub mod ByteLists
pub mod Lent
