-- The words are what was read.
use Rattle.text.proofs.Arguments.{bytes_there, out_there}
use Rattle.client_player.proofs.read.read_open.Goals as goal

pub returns : goal.returns
returns c =
    let offered = bytes_there 9 c.args.line.now c.args.offered.now _ c.in_ok-offered.offered c.told-offered c.in_ok-offered.ensures.value c.bytes_at.ensures.out_after in
    rw (← c.in_ok-ends.ensures, ← c.in_ok-mss.ensures, out_there 8 c.args.line.now _ c.in_ok-out_len.ensures, offered)
