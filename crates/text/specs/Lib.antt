-- The text of the replay programs, as their format is fixed: lines, words, numbers, byte strings, arguments; the lent output; what is put into a buffer; the input; then what lines come to.
pub mod Line
pub mod Word
pub mod Number
pub mod ByteString
pub mod Argument
pub mod Output
pub mod Put
pub mod Reader
pub mod Play
