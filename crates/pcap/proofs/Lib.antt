-- The laws: Next (one step of the reader), Steps (room in the counts), Written (what is written), Refills (a window with the next piece).
-- The theorems: Windows (a capture read in pieces), ReadBack (what is written reads back).
pub mod Next
pub mod Steps
pub mod Written
pub mod Refills
pub mod Windows
pub mod ReadBack
