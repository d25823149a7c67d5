-- TCP segments, as RFC 9293, RFC 1071, RFC 7413 and documents 01 and 02 define them. In reading order: the refusals; numbers as bytes; the header, its kind and
-- its parts; the options, what is remarked on them, and those that are used by their places; the checksum, and its total as the code has it; sequence numbers; the segments that are written; and samples of the older coding and of the remarks.
pub mod Refusal
pub mod Bytes
pub mod Header
pub mod Options
pub mod Remarks
pub mod Places
pub mod Found
pub mod Checksum
pub mod Totals
pub mod Sequence
pub mod Write
pub mod Older
pub mod RemarkSamples
