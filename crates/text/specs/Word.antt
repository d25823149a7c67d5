-- The replay format (docs/REPLAY.md), "Lines in": words are separated by one space.
-- Assumes nothing.
use Rattle.std.specs.Prelude.{ℕ, zero, suc, List, [], ◌∷◌, Bool, cond, eqb}
use Rattle.lists.specs.Lists.{tally}

abbrev pub is_space : ℕ → Bool
is_space b = eqb b 32

-- how many spaces a line has: one less than its words
abbrev pub spaces : List ℕ → ℕ
spaces s = tally is_space s

-- what stands before the first space, and what follows it
unfoldable pub first_word : List ℕ → List ℕ
first_word [] = []
first_word (b ∷ s) = cond (is_space b) [] (b ∷ first_word s)

unfoldable pub after_word : List ℕ → List ℕ
after_word [] = []
after_word (b ∷ s) = cond (is_space b) s (after_word s)

-- the word at a place, counted from 0; empty where there is none
unfoldable pub word_at : ℕ → List ℕ → List ℕ
word_at zero s = first_word s
word_at (suc i) s = word_at i (after_word s)
