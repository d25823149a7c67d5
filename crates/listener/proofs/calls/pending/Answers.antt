-- A listener that was started, or not.
use Rattle.std.proofs.Common.{refl}
use Rattle.protocol.specs.Step.{pending_number}
use Rattle.listener.proofs.calls.pending.Goals as goal

pub returns-then-l : goal.returns-then-l
unfolding pending_number
returns-then-l c = simp c.if-l.true c.count_pending.ensures

pub returns : goal.returns
unfolding pending_number
returns c = simp c.if-l.false refl
