-- The words are what was read.
use Rattle.text.proofs.Arguments.{bytes_there}
use Rattle.client_player.proofs.read.read_ends.Goals as goal

pub returns : goal.returns
returns c =
    let own = bytes_there 2 c.args.line.now c.args.own.now _ c.in_ok-bytes_at.field-0 c.told-own c.in_ok-bytes_at.ensures.value c.bytes_at.ensures.out_after in
    let server = bytes_there 4 c.args.line.now c.args.server.now _ c.in_ok-bytes_at-2.field-0 c.told-server c.in_ok-bytes_at-2.ensures.value c.bytes_at-2.ensures.out_after in
    rw (← c.in_ok-number_at.ensures, own, ← c.in_ok-number_at-2.ensures, server, ← c.in_ok-number_at-3.ensures, ← c.in_ok-number_at-4.ensures)
