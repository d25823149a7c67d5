-- The array of zeros has the address at its front, cut to 16 bytes.
use Rattle.std.proofs.Common.{◌∙◌, take}
use Rattle.endpoint.proofs.Blocks.{block_is}
use Rattle.endpoint.proofs.address.block_of.Goals as goal

pub returns : goal.returns
returns c = c.copy.ensures.copied ∙ block_is (take 16 c.args.addr.now)
