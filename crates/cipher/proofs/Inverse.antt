-- `inverse` is the field's: the inverse of a byte is a byte, each byte but 0 has the product 1 with it, and 0 goes to 0.
-- Assumes nothing.
use mathlib.Core.Path.{◌≡◌, refl, sym, ◌∙◌}
use mathlib.Core.Bool.{Bool, true, false}
use Prim.Native.Nat.{ℕ, zero, suc, ◌*◌, ◌/◌, ◌%◌, ◌<◌, ◌≤◌}
use native.Mathlib.Nat.{le_of_suc-le-suc, not-suc-le-zero}
use native.Mathlib.Omega.{arith}
use lib.Bits.{xor_lt}
use lib.Dec.{eqb}
use lib.ListN.{replicate, get_or-replicate}
use Rattle.cipher.specs.Field.{◌•◌, if_set, product_of, xtime, product_of_squares, inverse}
use Rattle.cipher.proofs.Table.{table_of}

-- products are bytes
xtime-byte : (b : ℕ) → b < 256 → xtime b < 256
unfolding xtime
xtime-byte b h = xor_lt 8 (b * 2 % 256) (b / 128 * 0x1b) (omega arith) (omega arith)

if_set-byte : (t : Bool) (b : ℕ) → b < 256 → if_set t b < 256
if_set-byte true b h = h
if_set-byte false b h = omega arith

pub product_byte : (n a b : ℕ) → b < 256 → product_of n a b < 256
unfolding product_of
product_byte zero a b h = omega arith
product_byte (suc n) a b h =
    xor_lt 8 (if_set (eqb (a % 2) 1) b) (product_of n (a / 2) (xtime b)) (if_set-byte (eqb (a % 2) 1) b h) (product_byte n (a / 2) (xtime b) (xtime-byte b h))

squares_byte : (n y : ℕ) → product_of_squares n y < 256
unfolding product_of_squares ◌•◌
squares_byte zero y = omega arith
squares_byte (suc n) y = product_byte 8 y (product_of_squares n (y • y)) (squares_byte n (y • y))

pub inverse-byte : (x : ℕ) → inverse x < 256
unfolding inverse
inverse-byte x = squares_byte 7 (x • x)

-- each byte from 1 to 255 times its inverse
product : ℕ → ℕ
product k = suc k • inverse (suc k)

products : (k : ℕ) → k < 255 → product k ≡ 1
unfolding product ◌•◌ product_of xtime product_of_squares inverse
products k h = sym (table_of product 255 (replicate 255 1) refl tt k h) ∙ get_or-replicate 255 k 1 0 h

pub inverse-right : (x : ℕ) → 1 ≤ x → x < 256 → x • inverse x ≡ 1
unfolding product
inverse-right zero l h = absurd (not-suc-le-zero l)
inverse-right (suc k) l h = products k (le_of_suc-le-suc h)

pub inverse_zero : inverse 0 ≡ 0
unfolding ◌•◌ product_of xtime product_of_squares inverse
inverse_zero = refl
