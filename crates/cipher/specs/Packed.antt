-- How the code computes SubBytes and MixColumns of a column: four bytes in one number, and a table of what each byte adds.
-- Assumes nothing.
use Rattle.std.specs.Prelude.{◌≡◌, List, [], ◌∷◌, ℕ, ◌/◌, ◌%◌, ◌<◌, get_or}
use Rattle.cipher.specs.Field.{◌•◌}
use Rattle.cipher.specs.Cipher.{Bytes, s_box}

-- the bytes of a number, the lowest first
abbrev pub bytes_of : ℕ → Bytes
bytes_of p = p % 256 ∷ p / 256 % 256 ∷ p / 65536 % 256 ∷ p / 16777216 % 256 ∷ []

-- what s in row 0 adds to its column in MixColumns
abbrev pub share : ℕ → Bytes
share s = (2 • s) ∷ s ∷ s ∷ (3 • s) ∷ []

-- a table of it, for the S-box at each byte
unfoldable pub IsTTable : List ℕ → Type 0
IsTTable t = (x : ℕ) → x < 256 → bytes_of (get_or t x 0) ≡ share (s_box x)
