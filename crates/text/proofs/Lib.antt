-- For the crates above: Puts (puts that follow one another are one put), Values and Arguments (the value of a word that was read). RoundTrips: what is put is read again; Examples: computed by
-- the definitions. The others carry these and the functions' proofs: Lines and Reading (a line gathered from the input, a part of the input taken); AsStd (the words of `lists` are those of std);
-- Words, Numbers and PairBytes (the parts of a line, one turn of each reader); Plays (one line more); Digits (numbers and byte strings as text).
pub mod Puts
pub mod Values
pub mod Arguments
pub mod Lines
pub mod Reading
pub mod RoundTrips
pub mod Examples
pub mod AsStd
pub mod Words
pub mod Numbers
pub mod Plays
pub mod PairBytes
pub mod Digits
