-- FIPS 197's examples (edition of 2001), computed by the definitions: appendix A.1, the first and the last round keys, and appendix C.1.
-- Assumes nothing.
use mathlib.Core.Path.{◌≡◌, refl}
use mathlib.Core.List.{[], ◌∷◌, ◌++◌}
use lib.ListN.{take, drop}
use Rattle.cipher.specs.Field.{◌•◌, product_of, xtime, product_of_squares, inverse}
use Rattle.cipher.specs.Cipher.{Bytes, s_box, affine, affine_bit, affine_bits, mix_byte, add_round_key, rounds, cipher}
use Rattle.cipher.specs.KeyExpansion.{power_of_x, temp, next_word, extended, schedule, key_expansion}

abbrev key_a1 : Bytes
key_a1 = 0x2b ∷ 0x7e ∷ 0x15 ∷ 0x16 ∷ 0x28 ∷ 0xae ∷ 0xd2 ∷ 0xa6 ∷ 0xab ∷ 0xf7 ∷ 0x15 ∷ 0x88 ∷ 0x09 ∷ 0xcf ∷ 0x4f ∷ 0x3c ∷ []

-- A.1: the key itself, and words 4 to 7
pub a1_first : take 32 (key_expansion key_a1) ≡ key_a1 ++ (0xa0 ∷ 0xfa ∷ 0xfe ∷ 0x17 ∷ 0x88 ∷ 0x54 ∷ 0x2c ∷ 0xb1 ∷ 0x23 ∷ 0xa3 ∷ 0x39 ∷ 0x39 ∷ 0x2a ∷ 0x6c ∷ 0x76 ∷ 0x05 ∷ [])
unfolding key_expansion schedule extended next_word temp power_of_x s_box affine affine_bit affine_bits inverse product_of_squares ◌•◌ product_of xtime
a1_first = refl

-- A.1: words 40 to 43
pub a1_last : drop 160 (key_expansion key_a1) ≡ (0xd0 ∷ 0x14 ∷ 0xf9 ∷ 0xa8 ∷ 0xc9 ∷ 0xee ∷ 0x25 ∷ 0x89 ∷ 0xe1 ∷ 0x3f ∷ 0x0c ∷ 0xc8 ∷ 0xb6 ∷ 0x63 ∷ 0x0c ∷ 0xa6 ∷ [])
unfolding key_expansion schedule extended next_word temp power_of_x s_box affine affine_bit affine_bits inverse product_of_squares ◌•◌ product_of xtime
a1_last = refl

abbrev key_c1 : Bytes
key_c1 = 0x00 ∷ 0x01 ∷ 0x02 ∷ 0x03 ∷ 0x04 ∷ 0x05 ∷ 0x06 ∷ 0x07 ∷ 0x08 ∷ 0x09 ∷ 0x0a ∷ 0x0b ∷ 0x0c ∷ 0x0d ∷ 0x0e ∷ 0x0f ∷ []

abbrev plaintext_c1 : Bytes
plaintext_c1 = 0x00 ∷ 0x11 ∷ 0x22 ∷ 0x33 ∷ 0x44 ∷ 0x55 ∷ 0x66 ∷ 0x77 ∷ 0x88 ∷ 0x99 ∷ 0xaa ∷ 0xbb ∷ 0xcc ∷ 0xdd ∷ 0xee ∷ 0xff ∷ []

pub c1 : cipher (key_expansion key_c1) plaintext_c1 ≡ (0x69 ∷ 0xc4 ∷ 0xe0 ∷ 0xd8 ∷ 0x6a ∷ 0x7b ∷ 0x04 ∷ 0x30 ∷ 0xd8 ∷ 0xcd ∷ 0xb7 ∷ 0x80 ∷ 0x70 ∷ 0xb4 ∷ 0xc5 ∷ 0x5a ∷ [])
unfolding cipher rounds add_round_key mix_byte key_expansion schedule extended next_word temp power_of_x s_box affine affine_bit affine_bits inverse product_of_squares ◌•◌ product_of xtime
c1 = refl
