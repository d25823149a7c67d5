-- The last digits are put, those of `left` are to come.
use Rattle.text.proofs.Digits.{Split}
use Rattle.text.proofs.decimal.decimal.Given as goal

abbrev pub invariant-loop-left : goal.invariant-loop-left
invariant-loop-left l = Split l.n l.left l.i l.back

abbrev pub decreases-loop-left : goal.decreases-loop-left
decreases-loop-left l = l.left
