-- The words are what was read.
use Rattle.text.proofs.Arguments.{bytes_there}
use Rattle.player.proofs.read.read_release.Goals as goal

pub returns : goal.returns
returns c = λ b.
    let addr = bytes_there 2 c.args.line.now c.args.addr.now _ c.in_ok-addr.addr c.told-addr c.in_ok-addr.ensures.value c.bytes_at.ensures.out_after in
    rw (← c.in_ok-time.ensures, addr, ← c.in_ok-port.ensures)
