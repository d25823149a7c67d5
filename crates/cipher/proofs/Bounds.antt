-- The S-box gives bytes, and an encrypted block is made of bytes, if the key schedule is. Assumes nothing.
use Prim.Native.Nat.{ℕ, ◌<◌}
use native.Mathlib.Omega.{arith}
use lib.Bits.{xor_lt}
use lib.ListN.{drop, get_or}
use Rattle.lists.specs.Bytes.{Bytes as AllBytes}
use Rattle.lists.proofs.ByteLists.{each_byte}
use Rattle.cipher.specs.Field.{◌⊕◌, inverse}
use Rattle.cipher.specs.Cipher.{Bytes, affine_bit, affine_bits, affine, s_box, add_round_key, cipher}

-- the S-box gives bytes
affine-bit : (b i : ℕ) → affine_bit b i < 2
unfolding affine_bit
affine-bit b i = omega arith

affine-byte : (b : ℕ) → affine b < 256
unfolding affine affine_bits
affine-byte b =
    omega (arith, affine-bit b 0, affine-bit b 1, affine-bit b 2, affine-bit b 3, affine-bit b 4, affine-bit b 5, affine-bit b 6, affine-bit b 7)

pub s_box_byte : (x : ℕ) → s_box x < 256
unfolding s_box
s_box_byte x = affine-byte (inverse x)

-- the last step adds a round key to bytes of the S-box
pub cipher-byte : (w b : Bytes) → ((i : ℕ) → get_or w i 0 < 256) → (i : ℕ) → get_or (cipher w b) i 0 < 256
unfolding cipher add_round_key
cipher-byte w b h i =
    let last : AllBytes (drop 8 (cipher w b)) = (cell _ 168, (cell _ 169, (cell _ 170, (cell _ 171, (cell _ 172, (cell _ 173, (cell _ 174, (cell _ 175, tt)))))))) in
    each_byte (cipher w b) (cell _ 160, (cell _ 161, (cell _ 162, (cell _ 163, (cell _ 164, (cell _ 165, (cell _ 166, (cell _ 167, last)))))))) i
  where
    cell : (x k : ℕ) → (s_box x ⊕ get_or w k 0) < 256
    cell x k = xor_lt 8 (s_box x) (get_or w k 0) (s_box_byte x) (h k)
