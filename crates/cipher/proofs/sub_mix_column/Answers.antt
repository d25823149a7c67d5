-- The rows in two pairs.
use Rattle.std.proofs.Common.{ap, ◌∙◌}
use Rattle.cipher.specs.KeyExpansion.{rot_word}
use Rattle.cipher.proofs.Packed.{mixed}
use Rattle.cipher.proofs.sub_mix_column.Goals as goal

pub returns : goal.returns
returns c =
    c.to_le_bytes.ensures
    ∙ mixed _ _ _ _ _ _ _ _ _ c.share_of.ensures (c.rotate.ensures ∙ ap rot_word c.share_of-2.ensures)
    c.share_of-3.ensures (c.rotate-2.ensures ∙ ap rot_word c.share_of-4.ensures)
    (c.rotate-4.ensures ∙ ap rot_word c.rotate-3.ensures)
