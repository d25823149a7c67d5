-- What the comparison will come to stays what it was at the start.
use Rattle.comparison.proofs.Running.{Running, left}
use Rattle.comparison.proofs.compare.compare_captures.Given as goal

abbrev pub invariant-loop-one : goal.invariant-loop-one
invariant-loop-one l = Running l.first l.second l.initial.list l.initial.a l.list l.a

abbrev pub decreases-loop-one : goal.decreases-loop-one
decreases-loop-one l = left l.first l.second l.a
