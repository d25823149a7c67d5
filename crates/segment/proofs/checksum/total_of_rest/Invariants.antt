-- The sum so far and the total of what is left are the total.
use Rattle.std.proofs.Common.{◌≡◌, ◌+◌, ◌*◌, drop}
use Rattle.segment.specs.Totals.{total}
use Rattle.segment.proofs.checksum.total_of_rest.Given as goal

abbrev pub invariant-loop-word : goal.invariant-loop-word
invariant-loop-word l = l.sum + total (drop (2 * l.word-index) l.s) ≡ total l.s
