-- The first bytes are put, the others are as they were.
use Rattle.std.proofs.Common.{◌≡◌, ◌++◌, length, take, drop}
use Rattle.text.specs.ByteString.{pair_bytes}
use Rattle.text.proofs.bytestring.decode.Given as goal

abbrev pub invariant-loop-i : goal.invariant-loop-i
invariant-loop-i l = (length l.out ≡ length l.initial.out) × (l.out ≡ take l.i (pair_bytes l.word) ++ drop l.i l.initial.out)
