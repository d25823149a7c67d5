-- Four bytes in one number: what a sum and a rotation are there, and the T-table.
-- Assumes nothing.
use mathlib.Core.Path.{◌≡◌, ap, ap₂, sym, ◌∙◌}
use mathlib.Core.List.{List, [], ◌∷◌}
use Prim.Native.Nat.{ℕ, ◌+◌, ◌*◌, ◌/◌, ◌%◌, ◌<◌, ◌^◌}
use native.Mathlib.Omega.{arith}
use lib.Bits.{bit_xor, xor_mod, xor_shr}
use Rattle.std.specs.Int.{rotate_right, w32}
use Rattle.std.proofs.lemmas.Nat.{or_comm, or_shifted}
use lib.Dec.{T}
use lib.ListN.{length}
use Rattle.cipher.specs.Field.{◌•◌}
use Rattle.cipher.specs.Cipher.{Bytes, four, xor_word, mix_byte, s_box}
use Rattle.cipher.specs.KeyExpansion.{rot_word}
use Rattle.cipher.specs.Packed.{bytes_of, share, IsTTable}
use Rattle.cipher.proofs.Bounds.{s_box_byte}
use Rattle.cipher.proofs.Inverse.{product_byte}
use Rattle.cipher.proofs.Table.{every, table_of}
use Rattle.cipher.proofs.Words.{four_equal}
use Rattle.cipher.proofs.Xor.{xor_turn, xor_pairs}

-- a sum goes byte by byte
byte-xor : (k p q : ℕ) → bit_xor p q / 2 ^ k % 2 ^ 8 ≡ bit_xor (p / 2 ^ k % 2 ^ 8) (q / 2 ^ k % 2 ^ 8)
byte-xor k p q = rw (xor_shr p q k, xor_mod (p / 2 ^ k) (q / 2 ^ k) 8)

bytes-xor : (p q : ℕ) {u v : Bytes} → bytes_of p ≡ u → bytes_of q ≡ v → bytes_of (bit_xor p q) ≡ xor_word u v
bytes-xor p q e f = four_equal (xor_mod p q 8) (byte-xor 8 p q) (byte-xor 16 p q) (byte-xor 24 p q) ∙ ap₂ xor_word e f

-- the number of these four bytes
abbrev number : ℕ → ℕ → ℕ → ℕ → ℕ
number a b c d = a + b * 256 + c * 65536 + d * 16777216

number-bytes : (a b c d : ℕ) → a < 256 → b < 256 → c < 256 → d < 256 → bytes_of (number a b c d) ≡ (a ∷ b ∷ c ∷ d ∷ [])
number-bytes a b c d i j k l = four_equal (omega arith) (omega arith) (omega arith) (omega arith)

-- each byte one place lower, and the lowest on top
turned : (p : ℕ) → p < 2 ^ 32 → rotate_right w32 p 8 ≡ number (p / 256 % 256) (p / 65536 % 256) (p / 16777216 % 256) (p % 256)
turned p h =
    let e : p * 2 ^ 24 % 2 ^ 32 ≡ p % 256 * 2 ^ 24 = omega arith in
    let f : rotate_right w32 p 8 ≡ p % 256 * 2 ^ 24 + p / 256 = or_comm (p / 2 ^ 8) (p * 2 ^ 24 % 2 ^ 32) ∙ rw e (or_shifted (p % 256) 24 (p / 2 ^ 8) (omega arith)) in
    omega arith

pub rotated : (p : ℕ) → p < 2 ^ 32 → bytes_of (rotate_right w32 p 8) ≡ rot_word (bytes_of p)
rotated p h = rw (turned p h) (number-bytes _ _ _ _ (omega arith) (omega arith) (omega arith) (omega arith))

-- an entry of the T-table, as a number
unfoldable pub entry_of : ℕ → ℕ
entry_of s = number (2 • s) s s (3 • s)

entry-bytes : (s : ℕ) → s < 256 → bytes_of (entry_of s) ≡ share s
unfolding entry_of ◌•◌
entry-bytes s h = number-bytes (2 • s) s s (3 • s) (product_byte 8 2 s h) h h (product_byte 8 3 s h)

pub t_table_tested : (t : List ℕ) → length t ≡ 256 → T (every (λ x. entry_of (s_box x)) 0 t) → IsTTable t
unfolding IsTTable
t_table_tested t l p x h = ap bytes_of (table_of (λ x. entry_of (s_box x)) 256 t l p x h) ∙ entry-bytes (s_box x) (s_box_byte x)

-- a column of MixColumns: what its bytes a, b, c, d add, each turned to its row; c and b take two places together, to z
pub mixed : (a b c d p q r s z : ℕ) → bytes_of p ≡ share a → bytes_of s ≡ rot_word (share d) → bytes_of r ≡ share c → bytes_of q ≡ rot_word (share b)
    → bytes_of z ≡ rot_word (rot_word (bytes_of (bit_xor r q))) → bytes_of (bit_xor (bit_xor p s) z) ≡ four (mix_byte (a ∷ b ∷ c ∷ d ∷ []))
unfolding mix_byte
mixed a b c d p q r s z e h g f k =
    bytes-xor (bit_xor p s) z (bytes-xor p s e h) (k ∙ ap (λ (w : Bytes). rot_word (rot_word w)) (bytes-xor r q g f))
    ∙ four_equal (xor_pairs (2 • a) (3 • b) c d) (xor_pairs a (2 • b) (3 • c) d ∙ xor_turn a (2 • b) (3 • c) d)
    (xor_pairs a b (2 • c) (3 • d) ∙ xor_turn a b (2 • c) (3 • d) ∙ xor_turn b (2 • c) (3 • d) a) (xor_pairs (3 • a) b c (2 • d) ∙ sym (xor_turn (2 • d) (3 • a) b c))
