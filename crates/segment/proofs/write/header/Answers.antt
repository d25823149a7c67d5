use Rattle.std.proofs.Common.{refl}
use Rattle.segment.specs.Write.{header_bytes}
use Rattle.segment.proofs.write.header.Goals as goal

pub returns : goal.returns
unfolding header_bytes
returns c = rw (c.to_be_bytes-source.ensures, c.to_be_bytes-dest.ensures, c.to_be_bytes-seq.ensures, c.to_be_bytes-ack.ensures, c.to_be_bytes-check.ensures) refl
