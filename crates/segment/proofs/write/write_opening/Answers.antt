use Rattle.segment.specs.Write.{opening_bytes}
use Rattle.segment.proofs.write.write_opening.Goals as goal

pub returns-clause-value : goal.returns-clause-value
unfolding opening_bytes
returns-clause-value c = c.write_segment.ensures.value

pub returns-clause-out_after : goal.returns-clause-out_after
unfolding opening_bytes
returns-clause-out_after c = c.write_segment.ensures.out_after
