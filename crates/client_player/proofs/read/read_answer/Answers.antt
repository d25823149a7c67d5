-- The words are what was read.
use Rattle.text.proofs.Arguments.{bytes_there}
use Rattle.client_player.proofs.read.read_answer.Goals as goal

pub returns : goal.returns
returns c =
    let seg = bytes_there 8 c.args.line.now c.args.seg.now _ c.in_ok-seg.seg c.told-seg c.in_ok-seg.ensures.value c.bytes_at.ensures.out_after in
    rw (← c.in_ok-ends.ensures, ← c.in_ok-sent.ensures, seg, c.in_ok-both.was)
