-- What is still to be compared decides, as long as no byte differed.
use Rattle.std.proofs.Common.{◌≡◌, ◌&&◌, length}
use Rattle.lists.specs.Bytes.{same_bytes}
use Rattle.cipher.proofs.is_half.Given as goal

abbrev pub invariant-loop-a : goal.invariant-loop-a
invariant-loop-a l =
    (length l.a-iterator.a.rest.now ≡ length l.a-iterator.b.rest.now) × (l.same && same_bytes l.a-iterator.a.rest.now l.a-iterator.b.rest.now ≡ same_bytes l.given l.fn.half)
