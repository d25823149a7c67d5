-- The table's rule is one test over its 256 entries, which antt computes.
use Rattle.std.proofs.Common.{refl}
use Rattle.cipher.specs.Field.{◌•◌, product_of, xtime, product_of_squares, inverse}
use Rattle.cipher.specs.Cipher.{s_box, affine, affine_bits, affine_bit}
use Rattle.cipher.proofs.Packed.{entry_of, t_table_tested}
use Rattle.cipher.proofs.ttable.t_table.Goals as goal

pub returns : goal.returns
unfolding entry_of s_box affine affine_bits affine_bit inverse product_of_squares ◌•◌ product_of xtime
returns c = t_table_tested _ refl tt
