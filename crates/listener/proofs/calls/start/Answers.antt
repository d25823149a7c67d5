-- By the checks.
use Rattle.std.proofs.Common.{sym, ap, ◌∙◌}
use Rattle.segment.specs.Refusal.{all_clear}
use Rattle.protocol.specs.declared.state.Listener.{Listener}
use Rattle.protocol.proofs.StartOf.{start-address, start-key, start-done}
use Rattle.listener.proofs.calls.start.Goals as goal

pub returns-then-not-is_size : goal.returns-then-not-is_size
returns-then-not-is_size c = c.refused_start.ensures ∙ start-address c.args.own.now c.args.port c.args.key.now (sym c.if-not-is_size.ensures)

pub returns-then-key-ne16 : goal.returns-then-key-ne16
returns-then-key-ne16 c =
    c.refused_start-then-key-ne16.ensures ∙ start-key c.args.own.now c.args.port c.args.key.now (sym c.if-not-is_size.ensures) c.if-key-ne16.true

pub returns : goal.returns
returns c =
    ap (λ (l : Listener). record { listener = l; check = all_clear }) c.fresh_listener.ensures
    ∙ start-done c.args.own.now c.args.port c.args.key.now (sym c.if-not-is_size.ensures) c.if-key-ne16.false
