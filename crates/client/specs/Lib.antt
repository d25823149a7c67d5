-- The client's memory, as documents 01 and 02 define it. In reading order: the cookie cache; the bans; the calls and what an event is in 01's words; the refusals; the call itself, and what does not depend on its remarks;
-- the room that an opening leaves for its options; and what holds over every list of calls, by a record of them.
pub mod Cache
pub mod Bans
pub mod Call
pub mod Refusals
pub mod Step
pub mod RemarksApart
pub mod Room
pub mod History
