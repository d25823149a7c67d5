-- By the checks.
use Rattle.std.proofs.Common.{sym, ◌∙◌, arith}
use Rattle.protocol.proofs.Step.{settings-stopped, settings_bad, settings-done, mss-most}
use Rattle.listener.proofs.calls.set_settings.Goals as goal

pub returns-then-not-is_in_range : goal.returns-then-not-is_in_range
returns-then-not-is_in_range c =
    c.refused-then-not-is_in_range.ensures ∙ sym (settings_bad c.args.l c.args.time c.args.g (sym c.in-Ok.ensures) (sym c.if-not-is_in_range.ensures))

pub overflow_cast-l : goal.overflow_cast-l
overflow_cast-l c = omega (arith, mss-most c.args.g (sym c.if-not-is_in_range.ensures))

pub returns-in-Err : goal.returns-in-Err
returns-in-Err c = c.refused.ensures ∙ sym (settings-stopped c.args.l c.args.time c.args.g (sym c.in-Err.ensures))

pub returns-else-not-is_in_range : goal.returns-else-not-is_in_range
returns-else-not-is_in_range c =
    c.done.ensures ∙ sym (settings-done c.args.l c.args.time c.args.g (sym c.in-Ok.ensures) (sym c.if-not-is_in_range.ensures))
