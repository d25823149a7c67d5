-- The sum goes on with the bytes that are left.
use Rattle.std.proofs.Common.{◌≡◌}
use Rattle.std.specs.Slice.Iter.{chunks_rest, chunks_size}
use Rattle.segment.specs.Checksum.{ones_sum}
use Rattle.segment.proofs.checksum.add_bytes.Given as goal

abbrev pub invariant-loop-run : goal.invariant-loop-run
invariant-loop-run l = record {
  size : chunks_size l.run-iterator ≡ 65536;
  same : ones_sum l.acc (chunks_rest l.run-iterator) ≡ ones_sum l.sum l.s;
}
