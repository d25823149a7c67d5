-- FIPS 197 (edition of 2001), section 4: bytes as elements of the field GF(2^8).
-- Assumes nothing.
use Rattle.std.specs.Prelude.{Bool, true, false, ℕ, zero, suc, ◌*◌, ◌/◌, ◌%◌, eqb}
use Rattle.std.specs.Int.Bits.{bit_xor}

-- arithmetic binds tighter than both
infixl 20 ◌⊕◌
infixl 30 ◌•◌
-- 4.1: the sum of two bytes is their exclusive or
abbrev pub ◌⊕◌ : ℕ → ℕ → ℕ
a ⊕ b = bit_xor a b

-- 4.2.1: b times x, which is {02}: a shift to the left, then {1b} is added where bit 7 was set
unfoldable pub xtime : ℕ → ℕ
xtime b = (b * 2 % 256) ⊕ (b / 128 * 0x1b)

-- b where the bit is set, else 0
abbrev pub if_set : Bool → ℕ → ℕ
if_set true b = b
if_set false b = 0

-- 4.2, by the method of 4.2.1: of the n low bits of a, each that is set adds b times its power of x
unfoldable pub product_of : ℕ → ℕ → ℕ → ℕ
product_of zero a b = 0
product_of (suc n) a b = if_set (eqb (a % 2) 1) b ⊕ product_of n (a / 2) (xtime b)

unfoldable pub ◌•◌ : ℕ → ℕ → ℕ
a • b = product_of 8 a b

-- y • y^2 • y^4 • .., n factors, each the square of the one before
unfoldable pub product_of_squares : ℕ → ℕ → ℕ
product_of_squares zero y = 1
product_of_squares (suc n) y = y • product_of_squares n (y • y)

-- 4.2: the multiplicative inverse, as x^254 = x^2 • x^4 • .. • x^128; 5.1.1: 0 goes to 0.
-- That it is the inverse of each x from 1 to 255 is proved in proofs/Inverse.antt.
unfoldable pub inverse : ℕ → ℕ
inverse x = product_of_squares 7 (x • x)
