-- For the crates above: a block has 16 bytes.
-- Assumes nothing.
use mathlib.Core.Path.{◌≡◌, refl}
use lib.ListN.{length}
use Rattle.cipher.specs.Cipher.{Bytes, cipher}

pub block-length : (w b : Bytes) → length (cipher w b) ≡ 16
unfolding cipher
block-length w b = refl
