-- The theorems: History (after any calls the memory holds what a record of them has), Room (options and data of an opening fit the MSS, or no data goes), Openings (how many
-- bytes an opening has), NeverStarted (a memory that was never started, and calls that are refused), Answer (an answer that is taken) and RemarksApart (what does not depend on the remarks). The others carry these and the functions' proofs.
pub mod History
pub mod Room
pub mod Openings
pub mod NeverStarted
pub mod Answer
pub mod RemarksApart
pub mod Recalled
pub mod Stores
pub mod AddBan
pub mod Remembered
pub mod EndsFirst
pub mod Refusals
pub mod Step
pub mod After
