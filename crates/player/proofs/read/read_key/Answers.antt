-- The words are what was read.
use Rattle.text.proofs.Arguments.{bytes_there}
use Rattle.player.proofs.read.read_key.Goals as goal

pub returns : goal.returns
returns c = λ b.
    let key = bytes_there 2 c.args.line.now c.args.key.now _ c.in_ok-key.key c.told-key c.in_ok-key.ensures.value c.bytes_at.ensures.out_after in
    rw (← c.in_ok-time.ensures, key)
