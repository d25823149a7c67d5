-- What is left of both is as long, and the same exactly if all is, where all before was.
use Rattle.std.proofs.Common.{◌≡◌, length}
use mathlib.Core.Bool.{◌&&◌}
use Rattle.std.specs.Slice.Iter.{iter_rest}
use Rattle.std.specs.Iterator.Adapters.{zip_first, zip_second}
use Rattle.lists.specs.Bytes.{same_bytes}
use Rattle.endpoint.proofs.address.same_block.Given as goal

abbrev pub invariant-loop-x : goal.invariant-loop-x
invariant-loop-x l = record {
  level : length (iter_rest (zip_first l.x-iterator)) ≡ length (iter_rest (zip_second l.x-iterator));
  whole : l.same && same_bytes (iter_rest (zip_first l.x-iterator)) (iter_rest (zip_second l.x-iterator)) ≡ same_bytes l.fn.a l.fn.b;
}
