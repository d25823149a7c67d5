-- By the checks.
use Rattle.std.proofs.Common.{sym, ◌∙◌}
use Rattle.protocol.proofs.Step.{key-stopped, key_bad, key-done}
use Rattle.listener.proofs.calls.set_key.Goals as goal

pub returns-then-key-ne16 : goal.returns-then-key-ne16
returns-then-key-ne16 c =
    c.refused-then-key-ne16.ensures ∙ sym (key_bad c.args.l c.args.time c.args.key.now (sym c.in-Ok.ensures) c.if-key-ne16.true)

pub returns-in-Err : goal.returns-in-Err
returns-in-Err c = c.refused.ensures ∙ sym (key-stopped c.args.l c.args.time c.args.key.now (sym c.in-Err.ensures))

pub returns-else-key-ne16 : goal.returns-else-key-ne16
returns-else-key-ne16 c =
    rw (c.done.ensures, c.expand_key.ensures, c.key_of.ensures) (sym (key-done c.args.l c.args.time c.args.key.now (sym c.in-Ok.ensures) c.if-key-ne16.false))
