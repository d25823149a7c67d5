use Rattle.segment.specs.Write.{syn_ack_bytes}
use Rattle.segment.proofs.write.write_syn_ack.Goals as goal

pub returns-clause-value : goal.returns-clause-value
unfolding syn_ack_bytes
returns-clause-value c = rw c.next_after.ensures at c.write_segment.ensures.value

pub returns-clause-out_after : goal.returns-clause-out_after
unfolding syn_ack_bytes
returns-clause-out_after c = rw c.next_after.ensures at c.write_segment.ensures.out_after
