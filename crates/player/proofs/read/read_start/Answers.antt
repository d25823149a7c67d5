-- The words are what was read.
use Rattle.text.proofs.Arguments.{bytes_there}
use Rattle.player.proofs.read.read_start.Goals as goal

pub returns : goal.returns
returns c =
    let own = bytes_there 1 c.args.line.now c.args.own.now _ c.in_ok-own.own c.told-own c.in_ok-own.ensures.value c.bytes_at.ensures.out_after in
    let key = bytes_there 3 c.args.line.now c.args.key.now _ c.in_ok-key.key c.told-key c.in_ok-key.ensures.value c.bytes_at-2.ensures.out_after in
    rw (own, ← c.in_ok-port.ensures, key)
