-- Two steps are enough for 32 bits.
use Rattle.std.proofs.Common.{refl, arith}
use Rattle.segment.proofs.Folded.{two_steps}
use Rattle.segment.proofs.checksum.fold.Goals as goal

pub returns : goal.returns
returns c = two_steps c.args.total _ (omega arith) refl
