-- The lanes and the total of what is left are the total.
use Rattle.std.proofs.Common.{◌≡◌, ◌+◌, ◌*◌, drop}
use Rattle.segment.specs.Totals.{total, lanes_total}
use Rattle.segment.proofs.checksum.total_of.Given as goal

abbrev pub invariant-loop-pass : goal.invariant-loop-pass
invariant-loop-pass l = lanes_total l.first + lanes_total l.second + total (drop (16 * l.pass-index) l.s) ≡ total l.s
