-- The replay format (docs/REPLAY.md), "Lines out": the lent output is filled with the byte A5, and REST tells whether the bytes past the written ones still have it.
-- Assumes nothing.
use Rattle.std.specs.Prelude.{ℕ, List, Bool, drop, eqb}
use Rattle.lists.specs.Lists.{every}

-- every byte is b
abbrev pub is_filled : ℕ → List ℕ → Bool
is_filled b s = every (λ x. eqb x b) s

-- `written` bytes of a lent output were written, and the others are A5
abbrev pub is_kept : ℕ → List ℕ → Bool
is_kept written lent = is_filled 165 (drop written lent)
