-- FIPS 197 (edition of 2001), sections 3 and 5.1: the state and the cipher, with a key of 128 bits.
-- Assumes nothing.
use Rattle.std.specs.Prelude.{◌≡◌, List, [], ◌∷◌, ℕ, zero, suc, ◌+◌, ◌*◌, ◌/◌, ◌%◌, ◌^◌, ◌<◌, get_or}
use Rattle.cipher.specs.Field.{◌⊕◌, ◌•◌, inverse}

-- 3.3, 3.5: a block is a list of bytes, and a word is four of them. The 44 words of a key schedule (5.2) are one list of 176 bytes.
abbrev pub Bytes : Type 0
Bytes = List ℕ

-- 3.4, 3.5: the state, as its four columns, each a word
abbrev pub State : Type 0
State = List Bytes

-- byte r of a word
abbrev pub byte : Bytes → ℕ → ℕ
byte w r = get_or w r 0

-- column c of a state
abbrev pub column : State → ℕ → Bytes
column s c = get_or s c []

-- the byte in row r and column c
abbrev pub at : State → ℕ → ℕ → ℕ
at s r c = byte (column s c) r

-- f 0 to f 3
abbrev pub four : {A : Type 0} → (ℕ → A) → List A
four f = f 0 ∷ f 1 ∷ f 2 ∷ f 3 ∷ []

-- the state with f r c in row r and column c
abbrev pub state_of : (ℕ → ℕ → ℕ) → State
state_of f = four (λ c. four (λ r. f r c))

-- 3.4, equation (3.3): byte r + 4 c of the block goes to row r of column c
abbrev pub from_block : Bytes → State
from_block b = state_of (λ r c. get_or b (c * 4 + r) 0)

-- 3.4, equation (3.4): and back
abbrev pub to_block : State → Bytes
to_block s =
    at s 0 0 ∷ at s 1 0 ∷ at s 2 0 ∷ at s 3 0
    ∷ at s 0 1 ∷ at s 1 1 ∷ at s 2 1 ∷ at s 3 1
    ∷ at s 0 2 ∷ at s 1 2 ∷ at s 2 2 ∷ at s 3 2
    ∷ at s 0 3 ∷ at s 1 3 ∷ at s 2 3 ∷ at s 3 3 ∷ []

-- bit i of a byte
abbrev pub bit : ℕ → ℕ → ℕ
bit b i = b / 2 ^ i % 2

-- 5.1.1, equation (5.1): bit i of the affine map
unfoldable pub affine_bit : ℕ → ℕ → ℕ
affine_bit b i = (bit b i + bit b ((i + 4) % 8) + bit b ((i + 5) % 8) + bit b ((i + 6) % 8) + bit b ((i + 7) % 8) + bit 0x63 i) % 2

-- its low bits, below i
unfoldable pub affine_bits : ℕ → ℕ → ℕ
affine_bits zero b = 0
affine_bits (suc i) b = affine_bit b i * 2 ^ i + affine_bits i b

unfoldable pub affine : ℕ → ℕ
affine = affine_bits 8

-- 5.1.1: the S-box, the inverse in the field and then the affine map
unfoldable pub s_box : ℕ → ℕ
s_box x = affine (inverse x)

-- a table of the S-box
unfoldable pub IsSBox : Bytes → Type 0
IsSBox t = (x : ℕ) → x < 256 → get_or t x 0 ≡ s_box x

-- 5.1.1: SubBytes
abbrev pub sub_bytes : State → State
sub_bytes s = state_of (λ r c. s_box (at s r c))

-- 5.1.2: ShiftRows, row r moves r places to the left, cyclically
abbrev pub shift_rows : State → State
shift_rows s = state_of (λ r c. at s r ((c + r) % 4))

-- 5.1.3, equation (5.6): byte r of a column
unfoldable pub mix_byte : Bytes → ℕ → ℕ
mix_byte w r = 2 • byte w r ⊕ 3 • byte w ((r + 1) % 4) ⊕ byte w ((r + 2) % 4) ⊕ byte w ((r + 3) % 4)

-- 5.1.3: MixColumns
abbrev pub mix_columns : State → State
mix_columns s = state_of (λ r c. mix_byte (column s c) r)

-- word i of a key schedule
abbrev pub word : Bytes → ℕ → Bytes
word w i = get_or w (i * 4) 0 ∷ get_or w (i * 4 + 1) 0 ∷ get_or w (i * 4 + 2) 0 ∷ get_or w (i * 4 + 3) 0 ∷ []

-- the sum of two words
abbrev pub xor_word : Bytes → Bytes → Bytes
xor_word a b = four (λ r. byte a r ⊕ byte b r)

-- 5.1.4: AddRoundKey, word 4 n + c of the key schedule w is added to column c
unfoldable pub add_round_key : Bytes → ℕ → State → State
add_round_key w n s = four (λ c. xor_word (column s c) (word w (n * 4 + c)))

-- 5.1: rounds 1 to n
unfoldable pub rounds : Bytes → ℕ → State → State
rounds w zero s = s
rounds w (suc n) s = add_round_key w (suc n) (mix_columns (shift_rows (sub_bytes (rounds w n s))))

-- 5.1: Cipher, of the key schedule w and the block b. The last of the ten rounds mixes no columns.
unfoldable pub cipher : Bytes → Bytes → Bytes
cipher w b = to_block (add_round_key w 10 (shift_rows (sub_bytes (rounds w 9 (add_round_key w 0 (from_block b))))))
