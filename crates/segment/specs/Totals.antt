-- The sum as the code of `add_bytes` makes it, and for that code alone: its carries are put off, and the two bytes of each word are swapped, as a
-- little-endian machine reads them (RFC 1071, 2: deferred carries, byte order independence). Assumes nothing.
use Rattle.std.specs.Prelude.{ℕ, zero, suc, ◌+◌, ◌-◌, ◌*◌, ◌/◌, ◌%◌, List, [], ◌∷◌}
use Rattle.segment.specs.Bytes.{word, byte_at}
use Rattle.segment.specs.declared.checksum.Lanes.{Lanes}

-- a word with its two bytes swapped, and so the word at i
unfoldable pub swapped : ℕ → ℕ
swapped x = word (x % 256) (x / 256)

abbrev pub swapped_at : List ℕ → ℕ → ℕ
swapped_at s i = word (byte_at s (i + 1)) (byte_at s i)

-- the swapped words of some bytes added up; an odd last byte is the low byte of one
unfoldable pub total : List ℕ → ℕ
total [] = 0
total (a ∷ []) = a
total (a ∷ b ∷ rest) = word b a + total rest

-- the words of a run, 65,536 bytes, come to this at most; with a word more they fit 32 bits
abbrev pub most_total : ℕ
most_total = 32768 * 65535

-- a pass: n of the swapped words, from byte i on
unfoldable pub pass_total : ℕ → List ℕ → ℕ → ℕ
pass_total zero s i = 0
pass_total (suc n) s i = pass_total n s i + swapped_at s (i + 2 * n)

-- what the lanes come to together
abbrev pub lanes_total : Lanes → ℕ
lanes_total l = l.a + l.b + l.c + l.d

-- the word that a total comes to once its carries are added at the low end: 0 for 0 alone, else 1 to 65535
unfoldable pub folded : ℕ → ℕ
folded t = t - 65535 * ((t - 1) / 65535)
