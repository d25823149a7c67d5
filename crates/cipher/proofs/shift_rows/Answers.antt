-- Column by column. (The check proves this by itself; the file is here so that a wrong place is refused as an equation.)
use Rattle.std.proofs.Common.{refl}
use Rattle.cipher.proofs.Words.{columns_are}
use Rattle.cipher.proofs.shift_rows.Goals as goal

pub returns : goal.returns
returns c = columns_are _ refl refl refl refl refl
