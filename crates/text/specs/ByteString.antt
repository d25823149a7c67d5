-- The replay format (docs/REPLAY.md): a byte string is pairs of hexadecimal digits, of either case, or `-` for no bytes.
-- Assumes nothing.
use Rattle.std.specs.Prelude.{ℕ, ◌+◌, ◌-◌, ◌*◌, ◌/◌, ◌%◌, List, [], ◌∷◌, Bool, cond, ◌&&◌, ◌||◌, Option, Some, None, length, leb, ltb, eqb}
use Rattle.lists.specs.Bytes.{same_bytes}
use Rattle.lists.specs.Lists.{every}

-- `-`
abbrev pub is_dash : List ℕ → Bool
is_dash s = same_bytes s (45 ∷ [])

-- what a hexadecimal digit counts: `0` to `9`, `A` to `F`, `a` to `f`; 16 for any other byte
unfoldable pub nibble : ℕ → ℕ
nibble b =
    cond (leb 48 b && leb b 57) (b - 48)
    (cond (leb 65 b && leb b 70) (b - 55)
    (cond (leb 97 b && leb b 102) (b - 87) 16))

abbrev pub is_hex_digit : ℕ → Bool
is_hex_digit b = ltb (nibble b) 16

-- an even number of digits, at least two, and nothing else
abbrev pub is_hex : List ℕ → Bool
is_hex s = ltb 0 (length s) && (eqb (length s % 2) 0 && every is_hex_digit s)

-- the bytes that pairs of digits say
unfoldable pub pair_bytes : List ℕ → List ℕ
pair_bytes [] = []
pair_bytes (a ∷ []) = []
pair_bytes (a ∷ b ∷ s) = (nibble a * 16 + nibble b) ∷ pair_bytes s

-- the bytes that a byte string stands for
unfoldable pub bytes_of : List ℕ → List ℕ
bytes_of s = cond (is_dash s) [] (pair_bytes s)

-- whether a word is a byte string whose bytes fit
unfoldable pub is_readable : List ℕ → ℕ → Bool
is_readable s out_len = (is_dash s || is_hex s) && leb (length (bytes_of s)) out_len

-- the bytes that are read to a buffer of this length; none where the word is bad
unfoldable pub bytes_in : List ℕ → ℕ → List ℕ
bytes_in s out_len = cond (is_readable s out_len) (bytes_of s) []

-- how many they are, if the word is not bad
unfoldable pub bytes_read : List ℕ → ℕ → Option ℕ
bytes_read s out_len = cond (is_readable s out_len) (Some (length (bytes_of s))) None

-- a digit below 16, in lower case
abbrev pub hex_digit : ℕ → ℕ
hex_digit d = cond (ltb d 10) (48 + d) (87 + d)

unfoldable pub hex_of : List ℕ → List ℕ
hex_of [] = []
hex_of (b ∷ s) = hex_digit (b / 16) ∷ hex_digit (b % 16) ∷ hex_of s

-- bytes as a word: `-` for none
unfoldable pub hex_word : List ℕ → List ℕ
hex_word [] = 45 ∷ []
hex_word (b ∷ s) = hex_of (b ∷ s)
