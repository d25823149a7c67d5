-- Document 02, Item 3: a window on a capture that is read in pieces, with the next piece.
-- Assumes nothing.
use Rattle.std.specs.Prelude.{ℕ, List, ◌++◌, length, take, drop}

-- what a walker left, from a place of the window to the end of what was in it
abbrev pub left_in : ℕ → ℕ → List ℕ → List ℕ
left_in at end window = drop at (take end window)

-- and what was read behind it, as much as the window has room for
abbrev pub refilled : ℕ → ℕ → List ℕ → List ℕ → List ℕ
refilled at end read window = take (length window) (left_in at end window ++ read)
