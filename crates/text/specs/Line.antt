-- The replay format (docs/REPLAY.md), "Lines in": how long a line may be, and which print nothing.
-- Assumes nothing.
use Rattle.std.specs.Prelude.{ℕ, ◌+◌, min, List, [], ◌∷◌, Bool, true, false, cond, length, take, drop, eqb, ltb}
use Rattle.lists.specs.Lists.{first_index}
use Rattle.text.specs.declared.line.Gathered.{Gathered}

-- a longer line is bad
abbrev pub longest : ℕ
longest = 8192

-- an empty line, and a comment, which begins with `#`
unfoldable pub is_silent : List ℕ → Bool
is_silent [] = true
is_silent (b ∷ s) = eqb b 35

-- how many bytes stand before the first line feed; all of them where there is none
abbrev pub feed_at : List ℕ → ℕ
feed_at s = first_index (λ b. eqb b 10) s

-- the bytes before the first line feed
abbrev pub before_feed : List ℕ → List ℕ
before_feed s = take (feed_at s) s

-- the length of a line that had n bytes and gets k; one byte too many counts like any number of them
abbrev pub length_with : ℕ → ℕ → ℕ
length_with n k = min (n + k) (longest + 1)

-- A line of n bytes goes on in the input from a place on: up to a line feed, and then it is complete, or to the input's end.
unfoldable pub gathered : ℕ → ℕ → List ℕ → Gathered
gathered n from input =
    cond (ltb (feed_at (drop from input)) (length (drop from input)))
    (record { next = from + feed_at (drop from input) + 1; len = length_with n (feed_at (drop from input)); complete = true })
    (record { next = length input; len = length_with n (feed_at (drop from input)); complete = false })

-- the line feed of a line that is complete
abbrev pub feed_of : Bool → List ℕ
feed_of true = 10 ∷ []
feed_of false = []
