-- The table's rule is one test over its 256 entries, which antt computes.
use Rattle.std.proofs.Common.{refl}
use Rattle.cipher.specs.Field.{◌•◌, product_of, xtime, product_of_squares, inverse}
use Rattle.cipher.specs.Cipher.{s_box, affine, affine_bits, affine_bit}
use Rattle.cipher.proofs.Table.{s_box_tested}
use Rattle.cipher.proofs.sbox.s_box.Goals as goal

pub returns : goal.returns
unfolding s_box affine affine_bits affine_bit inverse product_of_squares ◌•◌ product_of xtime
returns c = s_box_tested _ refl tt
