-- For the crates above: Malformed (a well-formed segment and its parts), Cookie (a cookie's place), Exchange (what one end writes and the other reads),
-- NumberOf (the refusals), Sixteen (the table of sixteen), Older (the older coding). The others carry these and the functions' proofs.
pub mod Malformed
pub mod Cookie
pub mod Exchange
pub mod NumberOf
pub mod Sixteen
pub mod Older
pub mod Chunks
pub mod Folded
pub mod OneFamily
pub mod ReadBack
pub mod ReadFrom
pub mod Total
pub mod Places
pub mod Remarks
pub mod Writes
pub mod Written
