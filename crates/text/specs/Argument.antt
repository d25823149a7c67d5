-- The replay format (docs/REPLAY.md), "Lines in": a line's words as the arguments of a call, each if its word is one.
-- Assumes nothing.
use Rattle.std.specs.Prelude.{ℕ, Bool, true, false, cond, ◌&&◌, Option, Some, None, List, [], ◌∷◌, eqb, length}
use Rattle.lists.specs.Bytes.{same_bytes, overwrite}
use Rattle.text.specs.Word.{spaces, word_at}
use Rattle.text.specs.Number.{number_in, number16_in, number32_in}
use Rattle.text.specs.ByteString.{bytes_in, bytes_read}

-- TIME and FAMILY
abbrev pub time_at : ℕ → List ℕ → Option ℕ
time_at i s = number_in (word_at i s) 18446744073709551615

-- a port
abbrev pub port_at : ℕ → List ℕ → Option ℕ
port_at i s = number16_in (word_at i s)

-- LIMIT, ROOM, HOLD, MSS, SHARE, OURS, SENT
abbrev pub number_at : ℕ → List ℕ → Option ℕ
number_at i s = number32_in (word_at i s)

-- OUT
abbrev pub out_at : ℕ → List ℕ → Option ℕ
out_at i s = number_in (word_at i s) 2048

-- one of two words, for true and for false
unfoldable pub switch_in : List ℕ → List ℕ → List ℕ → Option Bool
switch_in on off w = cond (same_bytes w on) (Some true) (cond (same_bytes w off) (Some false) None)

-- on|off
abbrev pub on_in : List ℕ → Option Bool
on_in w = switch_in (111 ∷ 110 ∷ []) (111 ∷ 102 ∷ 102 ∷ []) w

abbrev pub on_at : ℕ → List ℕ → Option Bool
on_at i s = on_in (word_at i s)

-- new|both: whether it is both
abbrev pub both_in : List ℕ → Option Bool
both_in w = switch_in (98 ∷ 111 ∷ 116 ∷ 104 ∷ []) (110 ∷ 101 ∷ 119 ∷ []) w

abbrev pub both_at : ℕ → List ℕ → Option Bool
both_at i s = both_in (word_at i s)

-- the bytes of a byte string, if one was read
abbrev pub bytes_if : Option ℕ → List ℕ → Option (List ℕ)
bytes_if None bytes = None
bytes_if (Some n) bytes = Some bytes

-- a byte string. No word of a line of 8,192 bytes has more than 4,096.
abbrev pub bytes_at : ℕ → List ℕ → Option (List ℕ)
bytes_at i s = bytes_if (bytes_read (word_at i s) 4096) (bytes_in (word_at i s) 4096)

-- what is made of a value, if it and the maker are there
infixl 20 ◌⊛◌
abbrev pub ◌⊛◌ : {A B : Type 0} → Option (A → B) → Option A → Option B
None ⊛ x = None
Some f ⊛ None = None
Some f ⊛ Some a = Some (f a)

-- whether a line is this call, by its first word and by how many spaces it has
abbrev pub is_call : List ℕ → ℕ → List ℕ → Bool
is_call name n s = same_bytes (word_at 0 s) name && eqb (spaces s) n

-- the first case whose test holds
abbrev pub first_case : {A : Type 0} → List (Bool × Option A) → Option A
first_case [] = None
first_case (c ∷ cs) = cond c.0 c.1 (first_case cs)

-- For the code alone: a byte string is given by its length, and its bytes are at the start of a buffer.

-- how many bytes a byte string has that is read to a buffer of so many
abbrev pub count_at : ℕ → List ℕ → ℕ → Option ℕ
count_at i s out_len = bytes_read (word_at i s) out_len

-- a buffer that a byte string is read to
abbrev pub bytes_over : ℕ → List ℕ → List ℕ → List ℕ
bytes_over i s out = overwrite (bytes_in (word_at i s) (length out)) out
