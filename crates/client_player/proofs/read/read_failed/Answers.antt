-- The words are what was read.
use Rattle.text.proofs.Arguments.{bytes_there}
use Rattle.client_player.proofs.read.read_failed.Goals as goal

pub returns : goal.returns
returns c = λ b d.
    let server = bytes_there 2 c.args.line.now c.args.server.now _ c.in_ok-server.server c.told-server c.in_ok-server.ensures.value c.bytes_at.ensures.out_after in
    rw (← c.in_ok-time.ensures, server, ← c.in_ok-port.ensures)
