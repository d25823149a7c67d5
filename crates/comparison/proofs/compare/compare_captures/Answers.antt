-- A turn keeps what the comparison will come to, and in the end it has come to it.
use Rattle.std.proofs.Common.{◌≡◌, true, false, sym, ◌∙◌, arith}
use Rattle.comparison.specs.Windows.{is_going}
use Rattle.comparison.proofs.Running.{again, less, ends}
use Rattle.comparison.proofs.compare.compare_captures.Goals as goal

pub loop-one-smaller : goal.loop-one-smaller
loop-one-smaller c =
    let going : is_going c.loop-one.a.turn ≡ true = sym c.is_going.ensures ∙ c.loop-one-test.true in
    less c.args.first.now c.args.second.now c.args.list.now _ c.loop-one.list c.loop-one.a c.loop-one.invariant going c.take_turn-a.ensures.value

pub loop-one-preserved : goal.loop-one-preserved
loop-one-preserved c =
    let going : is_going c.loop-one.a.turn ≡ true = sym c.is_going.ensures ∙ c.loop-one-test.true in
    again c.args.first.now c.args.second.now c.args.list.now _ c.loop-one.list c.loop-one.a c.loop-one.invariant going
    (c.take_turn-a.ensures.value, c.take_turn-a.ensures.list_after)

pub returns-clause-value : goal.returns-clause-value
returns-clause-value c =
    let over : is_going c.loop-one.a.turn ≡ false = sym c.is_going.ensures ∙ c.loop-one-test.false in
    (ends c.args.first.now c.args.second.now c.args.l c.args.list.now (omega arith) (omega arith) _ c.begin-a.ensures c.loop-one.list c.loop-one.a c.loop-one.invariant
    over (c.finding_of.ensures ∙ rw c.ends_of.ensures)).0

pub returns-clause-list_after : goal.returns-clause-list_after
returns-clause-list_after c =
    let over : is_going c.loop-one.a.turn ≡ false = sym c.is_going.ensures ∙ c.loop-one-test.false in
    (ends c.args.first.now c.args.second.now c.args.l c.args.list.now (omega arith) (omega arith) _ c.begin-a.ensures c.loop-one.list c.loop-one.a c.loop-one.invariant
    over (c.finding_of.ensures ∙ rw c.ends_of.ensures)).1
