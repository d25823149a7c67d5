-- Text put into a buffer, and the replay format's lines out.
-- Assumes nothing.
use Rattle.std.specs.Prelude.{ℕ, ◌+◌, ◌-◌, min, Bool, true, false, List, [], ◌∷◌, ◌++◌, length}
use Rattle.std.proofs.Math.Seq.{paste}
use Rattle.text.specs.Number.{decimal}
use Rattle.text.specs.declared.put.Text.{Text}

-- how many of n bytes fit from a place on, in a buffer of so many
abbrev pub fitting : ℕ → ℕ → ℕ → ℕ
fitting at n out_len = min n (out_len - at)

-- the place after n bytes that are put at a place
unfoldable pub place_after : ℕ → ℕ → ℕ → ℕ
place_after at n out_len = at + fitting at n out_len

-- a buffer with bytes put at a place, as many as fit; all others are as they were
unfoldable pub laid : ℕ → List ℕ → List ℕ → List ℕ
laid at s out = paste out at s (fitting at (length s) (length out))

-- a text with more put: the buffer with bytes put at the place, and the place after them
unfoldable pub put_after : List ℕ → Text → Text
put_after s t = record t { out = record t.out { now = laid t.at s t.out.now }; at = place_after t.at (length s) (length t.out.now) }

-- "Lines out": words with single spaces between them, and a line feed

abbrev pub field : List ℕ → List ℕ
field word = word ++ (32 ∷ [])

abbrev pub last_field : List ℕ → List ℕ
last_field word = word ++ (10 ∷ [])

unfoldable pub fields : List (List ℕ) → List ℕ
fields [] = 10 ∷ []
fields (word ∷ []) = last_field word
fields (word ∷ next ∷ words) = field word ++ fields (next ∷ words)

-- REST: `kept` or `changed`
abbrev pub rest_word : Bool → List ℕ
rest_word true = 107 ∷ 101 ∷ 112 ∷ 116 ∷ []
rest_word false = 99 ∷ 104 ∷ 97 ∷ 110 ∷ 103 ∷ 101 ∷ 100 ∷ []

-- a line's last words: REST SKIPPED USED BROKEN
abbrev pub end_words : Bool → ℕ → ℕ → ℕ → List (List ℕ)
end_words kept skipped used broken = rest_word kept ∷ decimal skipped ∷ decimal used ∷ decimal broken ∷ []

-- what a line that cannot be read prints: `bad line` and a line feed
abbrev pub bad_line : List ℕ
bad_line = 98 ∷ 97 ∷ 100 ∷ 32 ∷ 108 ∷ 105 ∷ 110 ∷ 101 ∷ 10 ∷ []
