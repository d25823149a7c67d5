-- After all places the one that was kept is the first of those that end first.
use Rattle.std.proofs.Common.{◌≡◌, length, rules, arith}
use Rattle.client.proofs.EndsFirst.{least_end}
use Rattle.client.proofs.bans.first_to_end.Goals as goal

pub returns-clause-place : goal.returns-clause-place
returns-clause-place c =
    let n : length c.args.bans.now ≡ 32 = search rules in
    least_end c.args.bans.now c.loop-i.i c.loop-i.first c.loop-i.invariant (omega arith)
