-- The words are what was read.
use Rattle.text.proofs.Arguments.{bytes_there, out_there}
use Rattle.player.proofs.read.read_segment.Goals as goal

pub returns : goal.returns
returns c =
    let src = bytes_there 2 c.args.line.now c.args.src.now _ c.in_ok-src.src c.told-src c.in_ok-src.ensures.value c.bytes_at.ensures.out_after in
    let seg = bytes_there 5 c.args.line.now c.args.seg.now _ c.in_ok-seg.seg c.told-seg c.in_ok-seg.ensures.value c.bytes_at-2.ensures.out_after in
    rw (← c.in_ok-time.ensures, src, ← c.in_ok-iss.ensures, out_there 4 c.args.line.now _ c.in_ok-out_len.ensures, seg)
