-- A part of the payload, or none.
use Rattle.protocol.proofs.StartOf.{none_taken, taken}
use Rattle.listener.proofs.outcome.accepted_part.Goals as goal

pub returns-then-data-n : goal.returns-then-data-n
returns-then-data-n c = none_taken _ _ c.payload-data.ensures c.accepted_count-n.ensures c.if-data-n.true

pub returns : goal.returns
returns c = taken _ _ c.payload-data.ensures c.accepted_count-n.ensures c.if-data-n.false
