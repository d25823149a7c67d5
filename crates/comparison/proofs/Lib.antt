-- The laws: Parting (the first place where two answers differ); Judging (a record that is fed, as the code reads it); Rest (what is left for a site); Endings
-- (a turn does not change what a comparison will come to); Closed, Whole (the list, entry by entry, is the whole list); Running (the loop over two whole
-- captures).
-- The theorems: OfTheWalk (the answers are those of the walk); Complete (complete, the first ones, swapped); InPieces, Little (captures of any size, however they are cut).
pub mod Parting
pub mod Judging
pub mod Rest
pub mod Endings
pub mod Closed
pub mod Whole
pub mod Running
pub mod OfTheWalk
pub mod Complete
pub mod InPieces
pub mod Little
