-- The listener's rules, as documents 01 and 02 define them. In reading order: the cookie; the slots; the calls and what an event is in 01's words; what a call's checks, event and output depend on in the
-- listener; its refusals; the call itself; the journal of the calls and demand 3; the two openings; the SYN-ACK to a new opening, as it is read; what does not depend on the remarks; the table of sixteen; and the share of an address.
pub mod Cookie
pub mod Table
pub mod Call
pub mod View
pub mod Refusals
pub mod Step
pub mod Journal
pub mod Demand3
pub mod TwoOpenings
pub mod Answered
pub mod RemarksApart
pub mod Sixteen
pub mod Share
