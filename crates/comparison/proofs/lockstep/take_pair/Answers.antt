-- What the code reads of each record is what was judged.
use Rattle.std.proofs.Common.{◌≡◌, ◌∙◌, ap₂}
use Rattle.comparison.specs.Difference.{difference_of}
use Rattle.comparison.specs.Lockstep.{pair_difference}
use Rattle.comparison.proofs.Judging.{judged-with}
use Rattle.comparison.proofs.lockstep.take_pair.Goals as goal

difference : (c : goal.After-c-2-1) → c.compare_answers-d.result ≡ pair_difference c.args.c.now c.args.r1.head c.args.r1.packet.now c.args.r2.head c.args.r2.packet.now
difference c =
    let a = c.args in
    let one = judged-with a.c.now.first a.r1.behind a.r1.head a.r1.packet.now _ c.judge-j1.ensures.value c.judge-j1.ensures.out_after in
    let two = judged-with a.c.now.second a.r2.behind a.r2.head a.r2.packet.now _ c.judge-j2.ensures.value c.judge-j2.ensures.out_after in
    c.compare_answers-d.ensures ∙ ap₂ difference_of (c.judged.ensures ∙ one) (c.judged-2.ensures ∙ two)

pub returns-clause-value : goal.returns-clause-value
returns-clause-value c =
    rw (c.judge-j1.ensures.value, c.judge-j2.ensures.value, c.take_difference-tally.ensures.value, difference c)

pub returns-clause-list_after : goal.returns-clause-list_after
returns-clause-list_after c = rw (c.take_difference-tally.ensures.list_after, difference c)
