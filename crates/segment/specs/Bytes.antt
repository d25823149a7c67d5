-- RFC 9293, 3.1: bytes, and numbers in a segment, in network byte order (the high byte first).
-- Assumes nothing.
use Rattle.std.specs.Prelude.{ℕ, ◌+◌, ◌*◌, ◌/◌, ◌%◌, List, [], ◌∷◌, slice_index}

-- the low 16 bits of a number as two bytes, and the low 32 as four
abbrev pub be16 : ℕ → List ℕ
be16 x = x / 256 % 256 ∷ x % 256 ∷ []

abbrev pub be32 : ℕ → List ℕ
be32 x = x / 16777216 % 256 ∷ x / 65536 % 256 ∷ x / 256 % 256 ∷ x % 256 ∷ []

-- the number in two bytes, and in four
abbrev pub word : ℕ → ℕ → ℕ
word a b = a * 256 + b

abbrev pub long : ℕ → ℕ → ℕ → ℕ → ℕ
long a b c d = ((a * 256 + b) * 256 + c) * 256 + d

-- byte i of a segment, and the numbers of two and of four bytes from i on; a missing byte reads as 0
abbrev pub byte_at : List ℕ → ℕ → ℕ
byte_at s i = slice_index s i

abbrev pub word_at : List ℕ → ℕ → ℕ
word_at s i = word (byte_at s i) (byte_at s (i + 1))

abbrev pub long_at : List ℕ → ℕ → ℕ
long_at s i = long (byte_at s i) (byte_at s (i + 1)) (byte_at s (i + 2)) (byte_at s (i + 3))
