-- The theorems: Demand3 (demand 3), Sixteen (the table of sixteen), Share (the share of an address), TwoOpenings (two openings from one address), Answered (the SYN-ACK to a new opening), RemarksApart (what does not depend on the remarks), NeverStarted (what a refusal leaves), Local (no call changes the own address), DoneOutput (the kind
-- of an outcome and the length of its SYN-ACK), Cookie (when a cookie is right). For the code that meets `step`: StartOf, Refusals and Step (a start, the checks of each
-- call, and the outcome of each call by them). The others carry these.
pub mod Demand3
pub mod Sixteen
pub mod Share
pub mod TwoOpenings
pub mod Answered
pub mod RemarksApart
pub mod NeverStarted
pub mod Local
pub mod DoneOutput
pub mod Cookie
pub mod StartOf
pub mod Refusals
pub mod Step
pub mod Table
pub mod DoneEvent
pub mod Journal
pub mod Openings
