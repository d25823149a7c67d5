-- FIPS 197 (edition of 2001), section 5.2: the key expansion, of a key of 128 bits to the 44 words of the key schedule.
-- Assumes nothing.
use Rattle.std.specs.Prelude.{Bool, true, false, [], ◌∷◌, ◌++◌, ℕ, zero, suc, ◌+◌, ◌-◌, ◌/◌, ◌%◌, eqb}
use Rattle.cipher.specs.Field.{xtime}
use Rattle.cipher.specs.Cipher.{Bytes, byte, four, word, xor_word, s_box}

-- RotWord: a0 a1 a2 a3 to a1 a2 a3 a0
abbrev pub rot_word : Bytes → Bytes
rot_word w = four (λ r. byte w ((r + 1) % 4))

-- SubWord: the S-box at each byte
abbrev pub sub_word : Bytes → Bytes
sub_word w = four (λ r. s_box (byte w r))

-- x to the power j, where x is {02}
unfoldable pub power_of_x : ℕ → ℕ
power_of_x zero = 1
power_of_x (suc j) = xtime (power_of_x j)

-- Rcon[i], for i from 1
abbrev pub rcon : ℕ → Bytes
rcon i = power_of_x (i - 1) ∷ 0 ∷ 0 ∷ 0 ∷ []

-- the standard's temp, from word i - 1, t: where i is a multiple of four (true), and where not
unfoldable pub temp : Bool → Bytes → ℕ → Bytes
temp true t i = xor_word (sub_word (rot_word t)) (rcon (i / 4))
temp false t i = t

-- word i, from the words before it
unfoldable pub next_word : Bytes → ℕ → Bytes
next_word w i = xor_word (word w (i - 4)) (temp (eqb (i % 4) 0) (word w (i - 1)) i)

-- the words before word i, and word i behind them
unfoldable pub extended : Bytes → ℕ → Bytes
extended w i = w ++ next_word w i

-- the four words of the key, and n words after them
unfoldable pub schedule : Bytes → ℕ → Bytes
schedule key zero = key
schedule key (suc n) = extended (schedule key n) (n + 4)

-- KeyExpansion
unfoldable pub key_expansion : Bytes → Bytes
key_expansion key = schedule key 40
